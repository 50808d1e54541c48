mod Pairs
mod PairItems
mod Failures
mod Ends
mod Cuts
mod Printing
