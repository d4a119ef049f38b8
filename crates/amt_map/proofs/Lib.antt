pub mod Depths
pub mod Spellings
pub mod Held
pub mod NodePlaces
pub mod Grouping
pub mod SlotSteps
pub mod Heights
mod PutAgain
pub mod NodeTexts
pub mod Writing
mod Within
mod ReadParts
mod NodeForm
mod Fronts
mod OneValue
mod ThreeItems
mod ReadValues
mod Gathering
mod MapOf
mod FirstIndex
mod WalkSteps
mod ReadOneNode
mod NodeParts
mod ReadChild
mod CanonicalNode
mod CanonicalRoot
mod FullNode
mod BitmapDigits
mod EachRun
mod PlainNode
mod NodeAgain
mod RootAgain
