-- A leaf's type, length, content and padding, written one after the other.
use Rattle.std.proofs.Common.{ℕ, ◌+◌, ◌^◌, ◌<◌, ◌≤◌, List, ◌++◌, Option, None, Some, Result, Ok, Err, length, sym, subst, arith, length-append}
use Rattle.std.specs.Io.KnownBytes.{Appends}
use Rattle.std.proofs.KnownBytes.{Appends-trans}
use Rattle.kmip_ttlv_types.specs.{declared.error.Error.Error, Streams.UsesRoom, Streams.IsTight, Headers.Writes, Primitives.WritesLong}
use Rattle.kmip_ttlv_types.proofs.Taken.{AppendsFront-first, AppendsFront-second}
use Rattle.kmip_ttlv_types.specs.declared.error.Error.TheVariants as errors

-- room that is used twice
UsesRoom-trans : (r s t : Option ℕ) (n m : ℕ) → UsesRoom r s n → UsesRoom s t m → UsesRoom r t (n + m)
UsesRoom-trans None s t n m first second = tt
UsesRoom-trans (Some x) None t n m first second = absurd first
UsesRoom-trans (Some x) (Some y) None n m first second = absurd second
UsesRoom-trans (Some x) (Some y) (Some z) n m first second = omega (arith, first, second)

-- there is no room for the second part
IsTight-after : (r s : Option ℕ) (n m k : ℕ) → UsesRoom r s n → IsTight s m → n + m ≤ k → IsTight r k
IsTight-after None s n m k used tight low = tt
IsTight-after (Some x) None n m k used tight low = absurd used
IsTight-after (Some x) (Some y) n m k used tight low = omega (arith, used, tight, low)

IsTight-le : (r : Option ℕ) (m k : ℕ) → IsTight r m → m ≤ k → IsTight r k
IsTight-le None m k tight low = tt
IsTight-le (Some x) m k tight low = omega (arith, tight, low)

-- the first part failed
pub Writes-first : (T P : Type 0) {A : Type 0} (xs ys : List ℕ) (a b : Option (List ℕ)) (r s : Option ℕ) (e : Error A) → Writes {T = P} xs a b r s (Err e)
    → Writes {T = T} (xs ++ ys) a b r s (Err e)
Writes-first T P xs ys a b r s (errors.IoError e) (front, tight) =
    (AppendsFront-first a b xs ys front, IsTight-le r _ _ tight (omega (arith, length-append xs ys)))
Writes-first T P xs ys a b r s (errors.InvalidTtlvTag text) h = absurd h
Writes-first T P xs ys a b r s (errors.UnexpectedTtlvField x y) h = absurd h
Writes-first T P xs ys a b r s (errors.UnsupportedTtlvType x) h = absurd h
Writes-first T P xs ys a b r s (errors.InvalidTtlvType x) h = absurd h
Writes-first T P xs ys a b r s (errors.InvalidTtlvValueLength x y z) h = absurd h
Writes-first T P xs ys a b r s (errors.InvalidTtlvValue x) h = absurd h
Writes-first T P xs ys a b r s errors.InvalidStateMachineOperation h = absurd h
Writes-first T P xs ys a b r s errors.OutOfMemory h = absurd h
Writes-first T P xs ys a b r s errors.LengthOverflow h = absurd h

module _ (xs : List ℕ) (a b : Option (List ℕ)) (r s : Option ℕ) (written : Appends a b xs) (used : UsesRoom r s (length xs)) where
  -- the second part was written, or failed
  pub Writes-second : {T A : Type 0} (ys : List ℕ) (c : Option (List ℕ)) (t : Option ℕ) (result : Result T (Error A)) → Writes ys b c s t result
      → Writes (xs ++ ys) a c r t result
  Writes-second ys c t (Ok p) (more, uses) =
      (Appends-trans a b c xs ys written more, subst (UsesRoom r t) (sym (length-append xs ys)) (UsesRoom-trans r s t _ _ used uses))
  Writes-second ys c t (Err (errors.IoError e)) (front, tight) =
      (AppendsFront-second a b c xs ys written front, IsTight-after r s _ _ _ used tight (omega (arith, length-append xs ys)))
  Writes-second ys c t (Err (errors.InvalidTtlvTag text)) h = absurd h
  Writes-second ys c t (Err (errors.UnexpectedTtlvField x y)) h = absurd h
  Writes-second ys c t (Err (errors.UnsupportedTtlvType x)) h = absurd h
  Writes-second ys c t (Err (errors.InvalidTtlvType x)) h = absurd h
  Writes-second ys c t (Err (errors.InvalidTtlvValueLength x y z)) h = absurd h
  Writes-second ys c t (Err (errors.InvalidTtlvValue x)) h = absurd h
  Writes-second ys c t (Err errors.InvalidStateMachineOperation) h = absurd h
  Writes-second ys c t (Err errors.OutOfMemory) h = absurd h
  Writes-second ys c t (Err errors.LengthOverflow) h = absurd h

-- what was written, or the error, if the length fits
WritesLong-fits : {T A : Type 0} (n : ℕ) → n < 2 ^ 32 → (xs : List ℕ) (a b : Option (List ℕ)) (r s : Option ℕ) (result : Result T (Error A))
    → Writes xs a b r s result → WritesLong n xs a b r s result
WritesLong-fits n low xs a b r s (Ok p) (written, uses) = (low, written, uses)
WritesLong-fits n low xs a b r s (Err (errors.IoError e)) (front, tight) = (low, front, tight)
WritesLong-fits n low xs a b r s (Err (errors.InvalidTtlvTag text)) h = absurd h
WritesLong-fits n low xs a b r s (Err (errors.UnexpectedTtlvField x y)) h = absurd h
WritesLong-fits n low xs a b r s (Err (errors.UnsupportedTtlvType x)) h = absurd h
WritesLong-fits n low xs a b r s (Err (errors.InvalidTtlvType x)) h = absurd h
WritesLong-fits n low xs a b r s (Err (errors.InvalidTtlvValueLength x y z)) h = absurd h
WritesLong-fits n low xs a b r s (Err (errors.InvalidTtlvValue x)) h = absurd h
WritesLong-fits n low xs a b r s (Err errors.InvalidStateMachineOperation) h = absurd h
WritesLong-fits n low xs a b r s (Err errors.OutOfMemory) h = absurd h
WritesLong-fits n low xs a b r s (Err errors.LengthOverflow) h = absurd h

module _ (T A : Type 0) (n : ℕ) (low : n < 2 ^ 32) where
  -- the first part failed
  pub first_fails : (P : Type 0) (xs ys : List ℕ) (a b : Option (List ℕ)) (r s : Option ℕ) (e : Error A) → Writes {T = P} xs a b r s (Err e)
      → WritesLong {T = T} n (xs ++ ys) a b r s (Err e)
  first_fails P xs ys a b r s e h = WritesLong-fits {T = T} n low (xs ++ ys) a b r s (Err e) (Writes-first T P xs ys a b r s e h)

  module _ (xs : List ℕ) (a b : Option (List ℕ)) (r s : Option ℕ) (written : Appends a b xs) (used : UsesRoom r s (length xs)) where
    -- the second part failed
    pub second_fails : (P : Type 0) (ys zs : List ℕ) (c : Option (List ℕ)) (t : Option ℕ) (e : Error A) → WritesLong {T = P} n ys b c s t (Err e)
        → WritesLong {T = T} n (xs ++ (ys ++ zs)) a c r t (Err e)
    second_fails P ys zs c t (errors.IoError e) (small, front, tight) = (
      low,
      AppendsFront-second a b c xs (ys ++ zs) written (AppendsFront-first b c ys zs front),
      IsTight-after r s _ _ _ used tight (omega (arith, length-append xs (ys ++ zs), length-append ys zs)),
    )
    second_fails P ys zs c t errors.LengthOverflow (long, keeps) = absurd (omega (arith, low, long))
    second_fails P ys zs c t (errors.InvalidTtlvTag text) h = absurd h
    second_fails P ys zs c t (errors.UnexpectedTtlvField x y) h = absurd h
    second_fails P ys zs c t (errors.UnsupportedTtlvType x) h = absurd h
    second_fails P ys zs c t (errors.InvalidTtlvType x) h = absurd h
    second_fails P ys zs c t (errors.InvalidTtlvValueLength x y z) h = absurd h
    second_fails P ys zs c t (errors.InvalidTtlvValue x) h = absurd h
    second_fails P ys zs c t errors.InvalidStateMachineOperation h = absurd h
    second_fails P ys zs c t errors.OutOfMemory h = absurd h

    -- the last part was written, or failed
    pub last_part : (P : Type 0) (ys : List ℕ) (c : Option (List ℕ)) (t : Option ℕ) (result : Result P (Error A)) → Writes {T = P} ys b c s t result
        → WritesLong {T = P} n (xs ++ ys) a c r t result
    last_part P ys c t result h = WritesLong-fits n low (xs ++ ys) a c r t result (Writes-second xs a b r s written used ys c t result h)

    -- the second part was written
    pub both_written : (ys : List ℕ) (c : Option (List ℕ)) (t : Option ℕ) → Appends b c ys → UsesRoom s t (length ys) → Appends a c (xs ++ ys)
        × UsesRoom r t (length (xs ++ ys))
    both_written ys c t more uses =
        (Appends-trans a b c xs ys written more, subst (UsesRoom r t) (sym (length-append xs ys)) (UsesRoom-trans r s t _ _ used uses))
