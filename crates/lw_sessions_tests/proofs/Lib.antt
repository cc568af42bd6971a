mod BroughtNames
mod FirstNames
mod TestDesks
mod TestTrials
