use Rattle.std.proofs.Common.{◌≡◌, length}
use denote.Text.{Utf8}
use denote.Shadow.{shadow}
use Rattle.kmip_words.specs.Words.{bits_with, pieces, mask_of}
use Rattle.kmip_words.proofs.words.Words.mask_of.Given as goal

abbrev pub invariant-words : goal.invariant-words
invariant-words g l = record {
  text : shadow (Utf8 l.rest);
  read : mask_of l.tag l.separator l.text ≡ bits_with l.tag l.mask (pieces l.separator l.rest);
}

abbrev pub decreases-words : goal.decreases-words
decreases-words g l = length l.rest
