-- The words of the standard's tags, of its enumerations' values and of its masks' bits, both ways.
use Rattle.std.specs.Prelude.{ℕ, ◌^◌, Bool, false, ◌==◌, ◌&&◌, ◌||◌, nat_lt, nat_le, List, [], ◌∷◌, Option, Some, None}
use Rattle.std.specs.Prelude.{if◌then◌else◌, option_and_then, bit_or, slice_index}
use Rattle.std.specs.List.{list_all, slice_split}
use Rattle.kmip_words.specs.declared.table.TheConstants.{WORDS}
use Rattle.kmip_words.specs.Rows.{number_named, word_named}

-- the number of a word in a list
unfoldable pub number_of : ℕ → List ℕ → Option ℕ
number_of list word = number_named WORDS.now list word

-- a letter, or an underscore; with the digits
abbrev pub is_letter : ℕ → Bool
is_letter c = (nat_le 65 c && nat_le c 90) || (nat_le 97 c && nat_le c 122) || c == 95

abbrev pub is_word_byte : ℕ → Bool
is_word_byte c = is_letter c || (nat_le 48 c && nat_le c 57)

-- bytes are a word: a letter, and letters and digits
abbrev pub is_word : List ℕ → Bool
is_word s = is_letter (slice_index s 0) && list_all is_word_byte s

-- a number is that one
abbrev pub is_number : ℕ → Option ℕ → Bool
is_number number None = false
is_number number (Some n) = n == number

-- a word, if it is one that stands for this number
abbrev pub word_back : ℕ → ℕ → Option (List ℕ) → Option (List ℕ)
word_back list number None = None
word_back list number (Some word) = if is_word word && is_number number (number_of list word) then Some word else None

-- the word of a number of a list: that of the table, if it stands for the number; so what is written is read back
unfoldable pub word_of : ℕ → ℕ → Option (List ℕ)
word_of list number = word_back list number (word_named WORDS.now list number)

-- a tag is below 2^24
abbrev pub tag_below : ℕ → Option ℕ
tag_below n = if nat_lt n (2 ^ 24) then Some n else None

-- the tag of a word, and the word of a tag: those of the list 0
unfoldable pub tag_of_word : List ℕ → Option ℕ
tag_of_word word = option_and_then tag_below (number_of 0 word)

unfoldable pub tag_word : ℕ → Option (List ℕ)
tag_word tag = word_of 0 tag

-- some bits, with those of words, if each has one
abbrev pub bits_with : ℕ → ℕ → List (List ℕ) → Option ℕ
bits_with list mask [] = Some mask
bits_with list mask (word ∷ words) = option_and_then (λ bit. bits_with list (bit_or mask bit) words) (number_of list word)

-- what stands between separators
abbrev pub pieces : ℕ → List ℕ → List (List ℕ)
pieces separator text = slice_split (λ b. b == separator) text

-- the mask of words with a byte between them
unfoldable pub mask_of : ℕ → ℕ → List ℕ → Option ℕ
mask_of list separator text = bits_with list 0 (pieces separator text)
