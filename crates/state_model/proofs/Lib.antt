mod NewBeside
mod RecordsAgain
mod NamesAgain
mod InitHead
mod LoadedAgain
