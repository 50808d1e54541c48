-- The tokens that a text begins with.
use Rattle.std.proofs.Common.{◌≡◌, ℕ, zero, suc, ◌+◌, ◌-◌, ◌<◌, ◌≤◌, List, [], ◌∷◌, ◌++◌, append_assoc, length, take, drop}
use Rattle.std.proofs.Common.{Option, Some, None, refl, ap, sym, ◌∙◌, arith}
use Rattle.std.proofs.lemmas.List.{drop-drop}
use Rattle.ttlv_captures.specs.Notations.{first_token, followed, tokens, bytes_of, widths}
use Rattle.ttlv_captures.specs.declared.notation.Notation.{Notation}
use Rattle.ttlv_captures.specs.declared.token.Token.{Token}

-- where there is a first token, it is the first of them
pub tokens_some : (n : Notation) (left k : ℕ) (s : List ℕ) (t : Token) → left ≡ suc k → first_token n s ≡ Some t
    → tokens n left s ≡ t ∷ tokens n k (drop t.width s)
tokens_some n left k s t is some =
    ap (λ (m : ℕ). tokens n m s) is ∙ ap (followed (λ (u : Token). tokens n k (drop u.width s))) some

-- where there is none, there are none
pub tokens_none : (n : Notation) (left : ℕ) (s : List ℕ) → first_token n s ≡ None → tokens n left s ≡ []
tokens_none n zero s none = refl
tokens_none n (suc k) s none = ap (followed (λ (u : Token). tokens n k (drop u.width s))) none

-- fewer tokens are the first of more
front_followed : (k : ℕ) (f g : Token → List Token) (o : Option Token) → ((t : Token) → take k (f t) ≡ g t) → take (suc k) (followed f o) ≡ followed g o
front_followed k f g None h = refl
front_followed k f g (Some t) h = ap (λ (ts : List Token). t ∷ ts) (h t)

pub tokens_front : (n : Notation) (k c : ℕ) (s : List ℕ) → k ≤ c → take k (tokens n c s) ≡ tokens n k s
tokens_front n zero c s le = refl
tokens_front n (suc k) zero s le = absurd (omega arith)
tokens_front n (suc k) (suc c) s le =
    front_followed k (λ (t : Token). tokens n c (drop t.width s)) (λ (t : Token). tokens n k (drop t.width s)) (first_token n s)
    (λ (t : Token). tokens_front n k c (drop t.width s) (omega arith))

bytes_front : (k : ℕ) (ts : List Token) → take k (bytes_of ts) ≡ bytes_of (take k ts)
bytes_front zero ts = refl
bytes_front (suc k) [] = refl
bytes_front (suc k) (t ∷ ts) = ap (λ (bs : List ℕ). t.byte ∷ bs) (bytes_front k ts)

-- the first bytes of more
pub bytes_fewer : (n : Notation) (k c : ℕ) (s bytes : List ℕ) → k ≤ c → bytes_of (tokens n c s) ≡ bytes → bytes_of (tokens n k s) ≡ take k bytes
bytes_fewer n k c s bytes le are =
    sym (ap (λ (bs : List ℕ). take k bs) (sym are) ∙ bytes_front k (tokens n c s) ∙ ap bytes_of (tokens_front n k c s le))

-- no more bytes than tokens are asked for
few_followed : (k : ℕ) (f : Token → List Token) (o : Option Token) → ((t : Token) → length (bytes_of (f t)) ≤ k) → length (bytes_of (followed f o)) ≤ suc k
few_followed k f None h = omega arith
few_followed k f (Some t) h = omega (arith, h t)

pub bytes_few : (n : Notation) (c : ℕ) (s : List ℕ) → length (bytes_of (tokens n c s)) ≤ c
bytes_few n zero s = omega arith
bytes_few n (suc c) s =
    few_followed c (λ (t : Token). tokens n c (drop t.width s)) (first_token n s) (λ (t : Token). bytes_few n c (drop t.width s))

-- one token more was read
pub bytes_step : (n : Notation) (left taken : ℕ) (text items all : List ℕ) (t : Token) → 0 < left → first_token n (drop taken text) ≡ Some t
    → all ≡ items ++ bytes_of (tokens n left (drop taken text))
    → all ≡ (items ++ (t.byte ∷ [])) ++ bytes_of (tokens n (left - 1) (drop (taken + t.width) text))
bytes_step n left taken text items all t some first is =
    let less : left ≡ suc (left - 1) = omega arith in
    let behind = ap (λ (d : List ℕ). items ++ (t.byte ∷ bytes_of (tokens n (left - 1) d))) (drop-drop t.width taken text) in
    is ∙ ap (λ (ts : List Token). items ++ bytes_of ts) (tokens_some n left (left - 1) (drop taken text) t less first) ∙ behind
    ∙ sym (append_assoc items (t.byte ∷ []) (bytes_of (tokens n (left - 1) (drop (taken + t.width) text))))

pub widths_step : (n : Notation) (left taken all : ℕ) (text : List ℕ) (t : Token) → 0 < left → first_token n (drop taken text) ≡ Some t
    → all ≡ taken + widths (tokens n left (drop taken text))
    → all ≡ taken + t.width + widths (tokens n (left - 1) (drop (taken + t.width) text))
widths_step n left taken all text t some first is =
    let less : left ≡ suc (left - 1) = omega arith in
    let behind = ap (λ (d : List ℕ). widths (tokens n (left - 1) d)) (drop-drop t.width taken text) in
    omega (arith, ap widths (tokens_some n left (left - 1) (drop taken text) t less first), behind)
