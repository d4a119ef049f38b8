pub mod Depths
pub mod Spellings
pub mod Held
pub mod Merging
pub mod Grouping
pub mod NodeBlocks
pub mod Places
pub mod PlainNodes
pub mod NodeParts
mod BitFields
mod PlacedPairs
mod ReadAgain
pub mod FitNode
mod FrontHeads
mod Fronts
mod NodeForm
mod WholeValues
mod ReadParts
mod WalkSteps
pub mod LoadedAgain
mod MapParts
mod Over
mod UnderRoot
mod CanonicalParts
mod Putting
mod LeafLists
mod Judged
mod StateValues
mod InOrder
mod AnyOrder
mod HashNumbers
mod PointerSteps
mod LowBits
mod LentPairs
mod PutAgain
mod GroupSteps
mod BucketSteps
pub mod AheadSteps
mod Omitting
mod OverPlaces
mod OverGroups
mod OverTrees
mod BucketPairs
mod FoundUnder
