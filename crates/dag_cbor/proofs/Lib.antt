pub mod Equations
pub mod OneSpelling
pub mod OneFault
mod CidLaw
mod Stack
mod Steps
pub mod Numbers
pub mod Heads
mod Tokens
pub mod Items
pub mod Whole
mod Through
mod RowReads
mod Blame
mod BlameNested
pub mod LinkEquations
mod PutSteps
mod LinkSteps
mod JudgeSteps
mod LinkBytes
mod CidForms
mod SkipSteps
mod ShortItems
mod SkipFronts
pub mod Fronts
mod ItemTexts
mod UsualLinks
