use Rattle.std.proofs.Common.{◌≡◌, ℕ, List, length}
use denote.Text.{Utf8}
use denote.Shadow.{shadow}
use Rattle.kmip_words.specs.Rows.{first_of, number_in, number_named}
use Rattle.kmip_words.proofs.maps.numbers_of.Given as goal

abbrev pub invariant-lines : goal.invariant-lines
invariant-lines g l = record {
  text : shadow (Utf8 l.rest);
  read : (list : ℕ) (word : List ℕ) → number_named l.table list word ≡ first_of (number_in l.numbers list word) (number_named l.rest list word);
}

abbrev pub decreases-lines : goal.decreases-lines
decreases-lines g l = length l.rest
