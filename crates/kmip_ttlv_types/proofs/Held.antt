-- What sinks hold, text after text.
use Rattle.std.proofs.Common.{inl, inr, ◌+◌, ◌≤◌, ℕ, List, [], ◌++◌, length, Option, Some, None, Result, Ok, Err, OnOk, OnErr, sym, subst, arith}
use Rattle.std.proofs.Common.{length-append, take_all, le_refl}
use Rattle.std.specs.Io.KnownBytes.{Appends}
use Rattle.std.proofs.KnownBytes.{Appends-nil, Appends-trans, Keeps-refl}
use Rattle.kmip_ttlv_types.specs.Streams.{AppendsFront, UsesRoom, IsTight}
use Rattle.kmip_ttlv_types.specs.Held.{Held, Gets, Rests, GetsFront, Says}
use Rattle.kmip_ttlv_types.proofs.Taken.{AppendsFront-second}

pub uses_none : (r : Option ℕ) → UsesRoom r r 0
uses_none None = tt
uses_none (Some x) = omega (arith)

pub uses_both : (r s t : Option ℕ) (xs ys : List ℕ) → UsesRoom r s (length xs) → UsesRoom s t (length ys) → UsesRoom r t (length (xs ++ ys))
uses_both None s t xs ys p q = tt
uses_both (Some x) None t xs ys p q = absurd p
uses_both (Some x) (Some y) None xs ys p q = absurd q
uses_both (Some x) (Some y) (Some z) xs ys p q = omega (arith, p, q, length-append xs ys)

pub tight_longer : (r : Option ℕ) (xs ys : List ℕ) → IsTight r (length xs) → length xs ≤ length ys → IsTight r (length ys)
tight_longer None xs ys p le = tt
tight_longer (Some x) xs ys p le = omega (arith, p, le)

pub tight_second : (r s : Option ℕ) (xs ys : List ℕ) → UsesRoom r s (length xs) → IsTight s (length ys) → IsTight r (length (xs ++ ys))
tight_second None s xs ys p q = tt
tight_second (Some x) None xs ys p q = absurd p
tight_second (Some x) (Some y) xs ys p q = omega (arith, p, q, length-append xs ys)

-- a whole text is a beginning of itself
pub whole_front : (a b : Option (List ℕ)) (text : List ℕ) → Appends a b text → AppendsFront a b text
whole_front a b text h = record {
  count = length text;
  within = le_refl (length text);
  appends =
      subst (Appends a b) (sym (take_all (length text) text (le_refl (length text)))) h;
}

pub gets_none : (a : Held) → Gets a a []
gets_none a = record { appended = Appends-nil a.pending; used = uses_none a.room }

pub rests : (a : Held) → Rests a a
rests a = (Keeps-refl a.pending, uses_none a.room)

pub gets_both : {a b c : Held} (s t : List ℕ) → Gets a b s → Gets b c t → Gets a c (s ++ t)
gets_both {a} {b} {c} s t x y = record {
  appended = Appends-trans a.pending b.pending c.pending s t x.appended y.appended;
  used = uses_both a.room b.room c.room s t x.used y.used;
}

-- a beginning of a text behind another one is a beginning of both
pub front_behind : {a b c : Held} (s t : List ℕ) → Gets a b s → GetsFront b c t → GetsFront a c (s ++ t)
front_behind {a} {b} {c} s t x y = record {
  appended = AppendsFront-second a.pending b.pending c.pending s t x.appended y.appended;
  tight = tight_second a.room b.room s t x.used y.tight;
}

-- a text that was sent, to its end or not
pub sent_says : {T E : Type 0} (r : Result T E) (a b : Held) (text : List ℕ) → OnOk r (Appends a.pending b.pending text)
    → OnErr r (AppendsFront a.pending b.pending text) → OnOk r (UsesRoom a.room b.room (length text)) → OnErr r (IsTight a.room (length text)) → Says a b text
sent_says (Ok x) a b text all some used tight = inl record { appended = all; used = used }
sent_says (Err e) a b text all some used tight = inr record { appended = some; tight = tight }
