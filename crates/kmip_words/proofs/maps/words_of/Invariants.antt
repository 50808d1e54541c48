use Rattle.std.proofs.Common.{◌≡◌, ℕ, length}
use denote.Text.{Utf8}
use denote.Shadow.{shadow}
use Rattle.kmip_words.specs.Rows.{first_of, word_in, word_named}
use Rattle.kmip_words.proofs.maps.words_of.Given as goal

abbrev pub invariant-lines : goal.invariant-lines
invariant-lines g l = record {
  text : shadow (Utf8 l.rest);
  read : (list number : ℕ) → word_named l.table list number ≡ first_of (word_in l.words list number) (word_named l.rest list number);
}

abbrev pub decreases-lines : goal.decreases-lines
decreases-lines g l = length l.rest
