-- The words of masks.
use Rattle.std.specs.Prelude.{ℕ, Bool, List, [], ◌∷◌, ◌++◌, nat_lt, bit_and, Option, Some, None, option_and_then, if◌then◌else◌}
use Rattle.kmip_words.specs.Words.{is_number, word_of, mask_of}
use Rattle.kmip_ttlv_json.specs.declared.masks.TheConstants.{BITS}

-- a mask has a bit
abbrev pub has_bit : ℕ → ℕ → Bool
has_bit mask bit = nat_lt 0 (bit_and mask bit)

-- a word behind others, with a separator between them
abbrev pub behind : ℕ → List ℕ → List ℕ → List ℕ
behind separator [] word = word
behind separator (c ∷ cs) word = (c ∷ cs) ++ separator ∷ word

-- the words of those of some bits that a mask has, behind others; if each has one
unfoldable pub words_behind : ℕ → ℕ → ℕ → List ℕ → List ℕ → Option (List ℕ)
words_behind tag separator mask text [] = Some text
words_behind tag separator mask text (bit ∷ bits) =
    if has_bit mask bit
    then option_and_then (λ word. words_behind tag separator mask (behind separator text word) bits) (word_of tag bit)
    else words_behind tag separator mask text bits

-- a text, if it is read as the mask
abbrev pub mask_back : ℕ → ℕ → ℕ → Option (List ℕ) → Option (List ℕ)
mask_back tag separator mask None = None
mask_back tag separator mask (Some text) = if is_number mask (mask_of tag separator text) then Some text else None

-- the words of a mask's bits, from the lowest on, if each has one, and they are read as the mask
unfoldable pub mask_text : ℕ → ℕ → ℕ → Option (List ℕ)
mask_text tag separator mask = mask_back tag separator mask (words_behind tag separator mask [] BITS)
