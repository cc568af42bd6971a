mod TestScripts
mod WorkedMachines
