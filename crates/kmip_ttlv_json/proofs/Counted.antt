-- Tokens, counted: there is at most one more than the text has bytes.
use Rattle.std.proofs.Common.{◌≡◌, ℕ, ◌+◌, ◌≤◌, Bool, true, false, List, [], ◌∷◌, length, Some, Option, ap, arith}
use Rattle.json.specs.Token.{Token}
use Rattle.json.specs.Lex.{Lexeme, token, comma, colon, Class, quote, backslash, operator, space, other, class, Mode}
use Rattle.json.specs.Lex.{between, in_word, in_string, in_escape, lex_byte, lex, Place, fresh, after_value, after_comma, after_key, begins_colon}
use Rattle.json.specs.Lex.{may_begin, may_close, if_allowed, place_token, punctuate, tokens}
use Rattle.json.specs.Json.{after_end_array, read_key}
use Rattle.json.proofs.Grammar.{read_key_is, closed_array}

byte_few : (m : Mode) (c : Class) (x n : ℕ) (xs : List ℕ) (k : Mode → List Lexeme) → ((next : Mode) → length (k next) ≤ n)
    → length (lex_byte m c x xs k) ≤ n + 1
byte_few between quote x n xs k f = omega (arith, f in_string)
byte_few between backslash x n xs k f = omega (arith, f in_word)
byte_few between operator x n xs k f = omega (arith, f between)
byte_few between space x n xs k f = omega (arith, f between)
byte_few between other x n xs k f = omega (arith, f in_word)
byte_few in_word quote x n xs k f = omega (arith, f in_word)
byte_few in_word backslash x n xs k f = omega (arith, f in_word)
byte_few in_word operator x n xs k f = omega (arith, f between)
byte_few in_word space x n xs k f = omega (arith, f between)
byte_few in_word other x n xs k f = omega (arith, f in_word)
byte_few in_string quote x n xs k f = omega (arith, f between)
byte_few in_string backslash x n xs k f = omega (arith, f in_escape)
byte_few in_string operator x n xs k f = omega (arith, f in_string)
byte_few in_string space x n xs k f = omega (arith, f in_string)
byte_few in_string other x n xs k f = omega (arith, f in_string)
byte_few in_escape c x n xs k f = omega (arith, f in_string)

lex_few : (m : Mode) (s : List ℕ) → length (lex m s) ≤ length s
unfolding lex
lex_few m [] = omega arith
lex_few m (x ∷ xs) =
    let h : length (lex m (x ∷ xs)) ≤ length xs + 1 = byte_few m (class x) x (length xs) xs (λ next. lex next xs) (λ next. lex_few next xs) in
    omega (arith, h)

allowed_few : (b : Bool) (t : Token) (n : ℕ) (k : Place → List Token) (next : Place) → length (k next) ≤ n → length (if_allowed b t k next) ≤ n + 1
allowed_few true t n k next h = omega (arith, h)
allowed_few false t n k next h = omega arith

place_few : (p : Place) (t : Token) (b : Bool) (n : ℕ) (k : Place → List Token) → ((next : Place) → length (k next) ≤ n)
    → length (place_token p t b k) ≤ n + 1
place_few p Token.begin_object b n k f = allowed_few (may_begin p) Token.begin_object n k fresh (f fresh)
place_few p Token.end_object b n k f = allowed_few (may_close p) Token.end_object n k after_value (f after_value)
place_few p Token.begin_array b n k f = allowed_few (may_begin p) Token.begin_array n k fresh (f fresh)
place_few p Token.end_array b n k f = allowed_few (may_close p) Token.end_array n k after_value (f after_value)
place_few p (Token.key s) b n k f = omega arith
place_few p (Token.string s) true n k f = allowed_few (may_begin p) (Token.key s) n k after_key (f after_key)
place_few p (Token.string s) false n k f = allowed_few (may_begin p) (Token.string s) n k after_value (f after_value)
place_few p (Token.number s) b n k f = allowed_few (may_begin p) (Token.number s) n k after_value (f after_value)
place_few p (Token.boolean v) b n k f = allowed_few (may_begin p) (Token.boolean v) n k after_value (f after_value)
place_few p Token.null b n k f = allowed_few (may_begin p) Token.null n k after_value (f after_value)
place_few p Token.bad b n k f = omega arith

punctuate_few : (p : Place) (ls : List Lexeme) → length (punctuate p ls) ≤ length ls + 1
unfolding punctuate
punctuate_few fresh [] = omega arith
punctuate_few after_value [] = omega arith
punctuate_few after_comma [] = omega arith
punctuate_few after_key [] = omega arith
punctuate_few fresh (token t ∷ ls) =
    let h : length (punctuate fresh (token t ∷ ls)) ≤ length ls + 1 + 1 =
    place_few fresh t (begins_colon ls) (length ls + 1) (λ next. punctuate next ls) (λ next. punctuate_few next ls) in
    omega (arith, h)
punctuate_few after_value (token t ∷ ls) =
    let h : length (punctuate after_value (token t ∷ ls)) ≤ length ls + 1 + 1 =
    place_few after_value t (begins_colon ls) (length ls + 1) (λ next. punctuate next ls) (λ next. punctuate_few next ls) in
    omega (arith, h)
punctuate_few after_comma (token t ∷ ls) =
    let h : length (punctuate after_comma (token t ∷ ls)) ≤ length ls + 1 + 1 =
    place_few after_comma t (begins_colon ls) (length ls + 1) (λ next. punctuate next ls) (λ next. punctuate_few next ls) in
    omega (arith, h)
punctuate_few after_key (token t ∷ ls) =
    let h : length (punctuate after_key (token t ∷ ls)) ≤ length ls + 1 + 1 =
    place_few after_key t (begins_colon ls) (length ls + 1) (λ next. punctuate next ls) (λ next. punctuate_few next ls) in
    omega (arith, h)
punctuate_few fresh (comma ∷ ls) = omega arith
punctuate_few after_value (comma ∷ ls) = omega (arith, punctuate_few after_comma ls)
punctuate_few after_comma (comma ∷ ls) = omega arith
punctuate_few after_key (comma ∷ ls) = omega arith
punctuate_few fresh (colon ∷ ls) = omega arith
punctuate_few after_value (colon ∷ ls) = omega arith
punctuate_few after_comma (colon ∷ ls) = omega arith
punctuate_few after_key (colon ∷ ls) = omega (arith, punctuate_few fresh ls)

pub tokens_few : (text : List ℕ) → length (tokens text) ≤ length text + 1
tokens_few text = omega (arith, punctuate_few fresh (lex between text), lex_few between text)

-- the end of an array, or a name, is one token
pub closed_one : (ts rest : List Token) → after_end_array ts ≡ Some rest → length ts ≡ length rest + 1
closed_one ts rest e = omega (arith, ap length (closed_array ts rest e))

pub key_one : (ts rest : List Token) (name : Option (List ℕ)) → read_key ts ≡ Some (name, rest) → length ts ≡ length rest + 1
key_one ts rest name e = omega (arith, ap length (read_key_is ts name rest e))
