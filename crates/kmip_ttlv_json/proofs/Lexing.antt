-- JSON as it is printed has the tokens of serde_json's compact text.
use Rattle.std.proofs.Common.{◌≡◌, ◌∙◌, ℕ, Bool, true, false, cond, List, [], ◌∷◌, ◌++◌, refl, sym, ap, ap₂, append_assoc, append-nil}
use Rattle.json.specs.Word.{ends_word, word}
use Rattle.json.specs.Lex.{Lexeme, lex, between, in_word, punctuate, fresh, tokens, token, comma, colon}
use Rattle.json.specs.Print.{quoted, IsNumber}
use Rattle.json.proofs.Printed.Numbers.{in_word-ended, lex-number}
use Rattle.serde_json.specs.Data.{Data, null, boolean, number, string, array, object, Items, no_items, item, Members, no_members, member}
use Rattle.serde_json.specs.Written.{number_text, compact_text, comma_if}
use Rattle.kmip_ttlv_json.specs.Spellings.{data_text, items_text, members_text}
use Rattle.kmip_ttlv_json.proofs.Spelling.{lex-spelled, lex-quoted}
use Rattle.json.specs.Token as tokens_of
use Rattle.serde_json.specs.Written as compact

-- the numbers in a value are written as numbers of JSON
abbrev mutual
  pub HasNumerals : Data → Type 0
  HasNumerals null = Unit {0}
  HasNumerals (boolean b) = Unit {0}
  HasNumerals (number n) = IsNumber (number_text n)
  HasNumerals (string s) = Unit {0}
  HasNumerals (array ds) = HaveNumerals ds
  HasNumerals (object ms) = MembersHaveNumerals ms

  pub HaveNumerals : Items → Type 0
  HaveNumerals no_items = Unit {0}
  HaveNumerals (item d ds) = HasNumerals d × HaveNumerals ds

  pub MembersHaveNumerals : Members → Type 0
  MembersHaveNumerals no_members = Unit {0}
  MembersHaveNumerals (member k d ms) = HasNumerals d × MembersHaveNumerals ms

-- two texts that may stand behind a value, with the same lexemes
record Alike (x y : List ℕ) : Type 0 where
  first : ends_word x ≡ true
  second : ends_word y ≡ true
  lexemes : lex between x ≡ lex between y

-- a letter of `null`, `true` or `false` ends no word
word_alike : (x y : List ℕ) (t : tokens_of.Token) → Alike x y
    → token (cond (ends_word x) t tokens_of.bad) ∷ lex in_word x ≡ token (cond (ends_word y) t tokens_of.bad) ∷ lex in_word y
word_alike x y t a =
    ap₂ (λ b l. token (cond b t tokens_of.bad) ∷ l) (a.first ∙ sym a.second) (in_word-ended x a.first ∙ a.lexemes ∙ sym (in_word-ended y a.second))

same_comma : (later : Bool) (x y : List ℕ) → lex between x ≡ lex between y → lex between (comma_if later ++ x) ≡ lex between (comma_if later ++ y)
unfolding lex
same_comma true x y e = ap (λ l. comma ∷ l) e
same_comma false x y e = e

item_ends : (ds : Items) (x : List ℕ) → ends_word (items_text true ds ++ x) ≡ true
item_ends no_items x = refl
item_ends (item d ds) x = refl

compact_item_ends : (ds : Items) (x : List ℕ) → ends_word (compact.items_text true ds ++ x) ≡ true
compact_item_ends no_items x = refl
compact_item_ends (item d ds) x = refl

member_ends : (ms : Members) (x : List ℕ) → ends_word (members_text true ms ++ x) ≡ true
member_ends no_members x = refl
member_ends (member k d ms) x = refl

compact_member_ends : (ms : Members) (x : List ℕ) → ends_word (compact.members_text true ms ++ x) ≡ true
compact_member_ends no_members x = refl
compact_member_ends (member k d ms) x = refl

assoc3 : (a b c x : List ℕ) → (a ++ (b ++ c)) ++ x ≡ a ++ (b ++ (c ++ x))
assoc3 a b c x = simp append_assoc

assoc4 : (a q b c x : List ℕ) → (a ++ (q ++ 58 ∷ (b ++ c))) ++ x ≡ a ++ (q ++ 58 ∷ (b ++ (c ++ x)))
assoc4 a q b c x = simp append_assoc

mutual
  unfolding lex word

  value_alike : (d : Data) (x y : List ℕ) → HasNumerals d → Alike x y → lex between (data_text d ++ x) ≡ lex between (compact_text d ++ y)
  value_alike null x y h a = word_alike x y tokens_of.null a
  value_alike (boolean true) x y h a = word_alike x y (tokens_of.boolean true) a
  value_alike (boolean false) x y h a = word_alike x y (tokens_of.boolean false) a
  value_alike (number n) x y h a =
      lex-number (number_text n) x h a.first ∙ ap (λ l. token (tokens_of.number (number_text n)) ∷ l) a.lexemes
      ∙ sym (lex-number (number_text n) y h a.second)
  value_alike (string s) x y h a = lex-spelled s x ∙ ap (λ l. token (tokens_of.string s) ∷ l) a.lexemes ∙ sym (lex-quoted s y)
  value_alike (array ds) x y h a = ap (λ l. token tokens_of.begin_array ∷ l) (items_alike false ds x y h a.lexemes)
  value_alike (object ms) x y h a = ap (λ l. token tokens_of.begin_object ∷ l) (members_alike false ms x y h a.lexemes)

  items_alike : (later : Bool) (ds : Items) (x y : List ℕ) → HaveNumerals ds → lex between x ≡ lex between y
      → lex between (items_text later ds ++ x) ≡ lex between (compact.items_text later ds ++ y)
  items_alike later no_items x y h e = ap (λ l. token tokens_of.end_array ∷ l) e
  items_alike later (item d ds) x y h e =
      let one = value_alike d (items_text true ds ++ x) (compact.items_text true ds ++ y) h.0 (record {
        first = item_ends ds x;
        second = compact_item_ends ds y;
        lexemes = items_alike true ds x y h.1 e;
      }) in
      ap (lex between) (assoc3 (comma_if later) (data_text d) (items_text true ds) x)
      ∙ same_comma later _ _ one ∙ sym (ap (lex between) (assoc3 (comma_if later) (compact_text d) (compact.items_text true ds) y))

  members_alike : (later : Bool) (ms : Members) (x y : List ℕ) → MembersHaveNumerals ms → lex between x ≡ lex between y
      → lex between (members_text later ms ++ x) ≡ lex between (compact.members_text later ms ++ y)
  members_alike later no_members x y h e = ap (λ l. token tokens_of.end_object ∷ l) e
  members_alike later (member k d ms) x y h e =
      let one = value_alike d (members_text true ms ++ x) (compact.members_text true ms ++ y) h.0 (record {
        first = member_ends ms x;
        second = compact_member_ends ms y;
        lexemes = members_alike true ms x y h.1 e;
      }) in
      let keyed = λ (l m : List ℕ) (same : lex between l ≡ lex between m). lex-quoted k (58 ∷ l)
      ∙ ap (λ (n : List Lexeme). token (tokens_of.string k) ∷ colon ∷ n) same ∙ sym (lex-quoted k (58 ∷ m)) in
      ap (lex between) (assoc4 (comma_if later) (quoted k) (data_text d) (members_text true ms) x)
      ∙ same_comma later _ _ (keyed _ _ one)
      ∙ sym (ap (lex between) (assoc4 (comma_if later) (quoted k) (compact_text d) (compact.members_text true ms) y))

-- the tokens of a value that is the whole text
pub same_tokens : (d : Data) → HasNumerals d → tokens (data_text d) ≡ tokens (compact_text d)
unfolding lex
same_tokens d h = ap (punctuate fresh) (ap (lex between) (sym (append-nil (data_text d)))
    ∙ value_alike d [] [] h (record { first = refl; second = refl; lexemes = refl }) ∙ ap (lex between) (append-nil (compact_text d)))
