mod Items
mod TableLemmas
