-- What several reads or writes in a row do to known bytes.
use Rattle.std.proofs.Common.{◌≡◌, ℕ, ◌+◌, ◌-◌, ◌<◌, ◌≤◌, List, ◌++◌, Option, None, Some, Result, Ok, Err, IfOk, length, take, drop, sym, ap, ◌∙◌, subst, arith}
use Rattle.std.proofs.Common.{take-add, take_all, length-append, length-drop, append-nil, drop_at, refl, le_refl, Bool, inl, inr, take-append-drop}
use Rattle.std.proofs.{lemmas.List.take-append-le, lemmas.List.take-take, KnownBytes.Consumes-trans, KnownBytes.Appends-trans}
use Rattle.std.specs.Io.{ReadsAtMost}
use Rattle.std.specs.Io.KnownBytes.{Appends, Consumes, IsAtEnd}
use Rattle.kmip_ttlv_types.specs.declared.error.Error.{Error}
use Rattle.kmip_ttlv_types.specs.Streams.{IsShort, AppendsFront, ConsumesUpTo, Lacks, FillsAll, Behind, TakesMore}
use Rattle.kmip_ttlv_types.specs.declared.error.Error.TheVariants as errors

take-append_more : (xs ys : List ℕ) (n : ℕ) → take (length xs + n) (xs ++ ys) ≡ xs ++ take n ys
take-append_more xs ys n =
    take-add (length xs) n (xs ++ ys) ∙ ap (λ l. l ++ take n (drop (length xs) (xs ++ ys))) (take-append-le (length xs) xs ys (le_refl _)
    ∙ take_all (length xs) xs (le_refl _))
    ∙ ap (λ l. xs ++ take n l) (drop_at xs ys (length xs) refl)

-- a list was filled up to f, and then by n more
pub Consumes-more : (a b c : Option (List ℕ)) (xs ys : List ℕ) (f n : ℕ) → take f ys ≡ take f xs → Consumes a b (take f xs)
    → Consumes b c (take n (drop f ys)) → Consumes a c (take (f + n) ys)
Consumes-more a b c xs ys f n front before read =
    subst (Consumes a c) (ap (λ l. l ++ take n (drop f ys)) (sym front) ∙ sym (take-add f n ys)) (Consumes-trans a b c _ _ before read)

-- a reader that gave fewer than m bytes and is at its end had fewer than m
pub IsShort-at_end : (a b : Option (List ℕ)) (bs : List ℕ) (m : ℕ) → Consumes a b bs → IsAtEnd b → length bs < m → IsShort a m
IsShort-at_end None b bs m taken end low = tt
IsShort-at_end (Some x) None bs m taken end low = absurd taken
IsShort-at_end (Some x) (Some y) bs m taken end low =
    let same : x ≡ bs = taken ∙ ap (λ l. bs ++ l) end ∙ append-nil bs in
    subst (λ (l : List ℕ). length l < m) (sym same) low

-- what was read into the part follows the front
pub Consumes-in_place : {E : Type 0} (a b : Option (List ℕ)) (r : Result ℕ E) (front part rest : List ℕ) (at : ℕ) → length front ≡ at → ReadsAtMost r part
    → IfOk r (λ n. Consumes a b (take n part)) → IfOk r (λ n. Consumes a b (take n (drop at (front ++ (part ++ rest)))))
Consumes-in_place a b (Ok n) front part rest at long fits read =
    subst (Consumes a b) (sym (ap (take n) (drop_at front (part ++ rest) at long) ∙ take-append-le n part rest fits.0)) read
Consumes-in_place a b (Err e) front part rest at long fits read = tt

-- the n bytes of the slice `&all[at..]`, after the first `at`
pub take-slice_end : (all : List ℕ) (at n : ℕ) → take at all ++ take n (take (length all - at) (drop at all)) ≡ take (at + n) all
take-slice_end all at n =
    let same : length (drop at all) ≤ length all - at = omega (arith, length-drop at all) in
    ap (λ l. take at all ++ take n l) (take_all (length all - at) (drop at all) same) ∙ sym (take-add at n all)

-- a front of the first part is a front of the whole
pub AppendsFront-first : (a b : Option (List ℕ)) (xs ys : List ℕ) → AppendsFront a b xs → AppendsFront a b (xs ++ ys)
AppendsFront-first a b xs ys front = record {
  count = front.count;
  within = omega (arith, front.within, length-append xs ys);
  appends = subst (Appends a b) (sym (take-append-le front.count xs ys front.within)) front.appends;
}

-- the first part, and then a front of the second
pub AppendsFront-second : (a b c : Option (List ℕ)) (xs ys : List ℕ) → Appends a b xs → AppendsFront b c ys → AppendsFront a c (xs ++ ys)
AppendsFront-second a b c xs ys first front = record {
  count = length xs + front.count;
  within = omega (arith, front.within, length-append xs ys);
  appends = subst (Appends a c) (sym (take-append_more xs ys front.count)) (Appends-trans a b c _ _ first front.appends);
}

-- after other bytes were consumed, too few followed
IsShort-after : (a b : Option (List ℕ)) (bs : List ℕ) (m n : ℕ) → Consumes a b bs → IsShort b m → length bs + m ≤ n → IsShort a n
IsShort-after None b bs m n taken short low = tt
IsShort-after (Some x) None bs m n taken short low = absurd taken
IsShort-after (Some x) (Some y) bs m n taken short low = omega (arith, ap (λ (l : List ℕ). length l) taken, length-append bs y, short)

-- bytes consumed after others
pub ConsumesUpTo-after : (a b c : Option (List ℕ)) (bs : List ℕ) (m n : ℕ) → Consumes a b bs → ConsumesUpTo b c m → length bs + m ≤ n → ConsumesUpTo a c n
ConsumesUpTo-after a b c bs m n taken more low = record {
  bytes = bs ++ more.bytes;
  within = omega (arith, more.within, length-append bs more.bytes);
  consumes = Consumes-trans a b c _ _ taken more.consumes;
}

-- why more bytes didn't come is why all of them didn't
Lacks-after : (can_fail : Bool) (a b : Option (List ℕ)) (bs : List ℕ) (m n : ℕ) (e : _) → Consumes a b bs → Lacks can_fail b m e → length bs + m ≤ n
    → Lacks can_fail a n e
Lacks-after can_fail a b bs m n e taken (inl fails) low = inl fails
Lacks-after can_fail a b bs m n e taken (inr (eof, short)) low = inr (eof, IsShort-after a b bs m n taken short low)

-- some bytes were consumed, and then more didn't come
pub TakesMore-after : (T : Type 0) {A : Type 0} (can_fail : Bool) (a b c : Option (List ℕ)) (xs ys zs : List ℕ) (m n k : ℕ) (e : Error A) → Behind a b xs ys m
    → TakesMore {T = T} can_fail b c ys zs n (Err e) → m + n ≤ k → TakesMore {T = T} can_fail a c xs zs k (Err e)
TakesMore-after T can_fail a b c xs ys zs m n k (errors.IoError e) first (due, lacks, upto) low =
    let len : length first.came + n ≤ k = omega (arith, first.count) in
    (omega (arith, due), Lacks-after can_fail a b first.came n k e first.consumes lacks len, ConsumesUpTo-after a b c first.came n k first.consumes upto len)
TakesMore-after T can_fail a b c xs ys zs m n k errors.OutOfMemory first (due, upto) low =
    (omega (arith, due), ConsumesUpTo-after a b c first.came n k first.consumes upto (omega (arith, first.count)))
TakesMore-after T can_fail a b c xs ys zs m n k (errors.InvalidTtlvTag text) first h low = absurd h
TakesMore-after T can_fail a b c xs ys zs m n k (errors.UnexpectedTtlvField x y) first h low = absurd h
TakesMore-after T can_fail a b c xs ys zs m n k (errors.UnsupportedTtlvType x) first h low = absurd h
TakesMore-after T can_fail a b c xs ys zs m n k (errors.InvalidTtlvType x) first h low = absurd h
TakesMore-after T can_fail a b c xs ys zs m n k (errors.InvalidTtlvValueLength x y z) first h low = absurd h
TakesMore-after T can_fail a b c xs ys zs m n k (errors.InvalidTtlvValue x) first h low = absurd h
TakesMore-after T can_fail a b c xs ys zs m n k errors.InvalidStateMachineOperation first h low = absurd h
TakesMore-after T can_fail a b c xs ys zs m n k errors.LengthOverflow first h low = absurd h

-- the bytes that were there stay in front
Behind-front : (a b : Option (List ℕ)) (xs ys : List ℕ) (m : ℕ) → Behind a b xs ys m → take (length xs) ys ≡ xs
Behind-front a b xs ys m more = ap (take (length xs)) more.parts ∙ take-append-le (length xs) xs more.came (le_refl _) ∙ take_all (length xs) xs (le_refl _)

-- and so they do if more is appended
pub Behind-stays : (a b : Option (List ℕ)) (xs ys zs : List ℕ) (m : ℕ) → Behind a b xs ys m → take (length ys) zs ≡ ys → take (length xs) zs ≡ xs
Behind-stays a b xs ys zs m more kept =
    let short : length xs ≤ length ys = omega (arith, ap (λ (l : List ℕ). length l) more.parts, length-append xs more.came) in
    sym (take-take (length xs) (length ys) zs short) ∙ ap (take (length xs)) kept ∙ Behind-front a b xs ys m more

-- bytes that fill what follows those that were there
pub TakesMore-filled : (T : Type 0) {A : Type 0} (can_fail : Bool) (a b : Option (List ℕ)) (xs ys : List ℕ) (at n : ℕ) (r : Result T (Error A))
    → take at ys ≡ xs → length (drop at ys) ≡ n → 0 < n → FillsAll can_fail a b (drop at ys) r → TakesMore can_fail a b xs ys n r
TakesMore-filled T can_fail a b xs ys at n (Ok v) front long due filled =
    record { came = drop at ys; consumes = filled; count = long; parts = sym (take-append-drop at ys) ∙ ap (λ l. l ++ drop at ys) front }
TakesMore-filled T can_fail a b xs ys at n (Err (errors.IoError e)) front long due (lacks, upto) =
    (due, subst (λ m. Lacks can_fail a m e) long lacks, subst (ConsumesUpTo a b) long upto)
TakesMore-filled T can_fail a b xs ys at n (Err (errors.InvalidTtlvTag text)) front long due h = absurd h
TakesMore-filled T can_fail a b xs ys at n (Err (errors.UnexpectedTtlvField x y)) front long due h = absurd h
TakesMore-filled T can_fail a b xs ys at n (Err (errors.UnsupportedTtlvType x)) front long due h = absurd h
TakesMore-filled T can_fail a b xs ys at n (Err (errors.InvalidTtlvType x)) front long due h = absurd h
TakesMore-filled T can_fail a b xs ys at n (Err (errors.InvalidTtlvValueLength x y z)) front long due h = absurd h
TakesMore-filled T can_fail a b xs ys at n (Err (errors.InvalidTtlvValue x)) front long due h = absurd h
TakesMore-filled T can_fail a b xs ys at n (Err errors.InvalidStateMachineOperation) front long due h = absurd h
TakesMore-filled T can_fail a b xs ys at n (Err errors.OutOfMemory) front long due h = absurd h
TakesMore-filled T can_fail a b xs ys at n (Err errors.LengthOverflow) front long due h = absurd h
