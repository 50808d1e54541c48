-- A header, and the message that begins with it.
use Rattle.std.proofs.Common.{◌≡◌, ℕ, ◌+◌, ◌-◌, ◌<◌, ◌≤◌, List, [], ◌++◌, length, get_or, Option, None, Some, sym, ap, ◌∙◌, subst, arith, length-append}
use Rattle.std.proofs.{Math.ListN.get_or-append, KnownBytes.Consumes-trans}
use Rattle.std.specs.Io.KnownBytes.{Consumes}
use Rattle.kmip_ttlv_types.specs.{declared.typ.TtlvType.TtlvType, ItemTypes.type_of, Streams.Behind}
use Rattle.kmip_ttlv_types.specs.Places.{tag_at, code_at, length_at}
use Rattle.kmip_ttlv_de.specs.StreamMessages.{message_size, Allows, Forbids, IsTakenUpTo, HasSize, Arrives}

-- the fields of the header are those of the whole message
pub record SameHeader (xs ys : List ℕ) : Type 0 where
  pub tag : tag_at xs 0 ≡ tag_at ys 0
  pub code : code_at xs 0 ≡ code_at ys 0
  pub size : message_size xs ≡ message_size ys

read_front : (head rest : List ℕ) (k : ℕ) → 8 ≤ length head → k < 8 → get_or (head ++ rest) k 0 ≡ get_or head k 0
read_front head rest k long low = get_or-append head rest 0 k (omega arith)

pub same_header : (head rest : List ℕ) → 8 ≤ length head → SameHeader (head ++ rest) head
same_header head rest long =
    let at : (k : ℕ) → k < 8 → get_or (head ++ rest) k 0 ≡ get_or head k 0 =
    λ k low. read_front head rest k long low in
    let e0 = at 0 (omega arith) in
    let e1 = at 1 (omega arith) in
    let e2 = at 2 (omega arith) in
    let e4 = at 4 (omega arith) in
    let e5 = at 5 (omega arith) in
    let e6 = at 6 (omega arith) in
    let e7 = at 7 (omega arith) in
    record {
      tag = cc;
      code = at 3 (omega arith);
      size = cc;
    }

-- as many bytes are read by the whole message as by its header alone
pub HasSize-along : (limit : Option ℕ) (xs ys : List ℕ) (n : ℕ) → SameHeader xs ys → HasSize limit xs n
    → HasSize limit ys n
HasSize-along limit xs ys n same h = subst (λ (c : ℕ). IsTakenUpTo (type_of c) limit (message_size ys) n) same.code
    (subst (λ (s : ℕ). IsTakenUpTo (type_of (code_at xs 0)) limit s n) same.size h)

pub SameHeader-sym : (xs ys : List ℕ) → SameHeader xs ys → SameHeader ys xs
SameHeader-sym xs ys same = record { tag = sym same.tag; code = sym same.code; size = sym same.size }

taken_least : (o : Option TtlvType) (limit : Option ℕ) (k n : ℕ) → IsTakenUpTo o limit (8 + k) n → 8 ≤ n
taken_least None limit k n h = absurd h
taken_least (Some t) limit k n h = omega (arith, h.1)

-- at least the header is read
pub HasSize-least : (limit : Option ℕ) (xs : List ℕ) (n : ℕ) → HasSize limit xs n → 8 ≤ n
HasSize-least limit xs n h = taken_least (type_of (code_at xs 0)) limit (length_at xs 0) n h

taken_one : (o : Option TtlvType) (limit : Option ℕ) (size m n : ℕ) → IsTakenUpTo o limit size m
    → IsTakenUpTo o limit size n → m ≡ n
taken_one None limit size m n h k = absurd h
taken_one (Some t) limit size m n h k = h.1 ∙ sym k.1

-- only one number of bytes is read
pub HasSize-one : (limit : Option ℕ) (xs : List ℕ) (m n : ℕ) → HasSize limit xs m → HasSize limit xs n → m ≡ n
HasSize-one limit xs m n h k = taken_one (type_of (code_at xs 0)) limit (message_size xs) m n h k

allowed_forbidden : (limit : Option ℕ) (size : ℕ) → Allows limit size → Forbids limit size → ⊥
allowed_forbidden None size a f = f
allowed_forbidden (Some most) size a f = omega (arith, a, f)

taken_allowed : (o : Option TtlvType) (t : TtlvType) (limit : Option ℕ) (size n : ℕ) → o ≡ Some t
    → IsTakenUpTo o limit size n → Forbids limit size → ⊥
taken_allowed None t limit size n is h f = h
taken_allowed (Some u) t limit size n is h f = allowed_forbidden limit size h.0 f

-- what is read of a message of known type is within the limit
pub HasSize-allowed : (limit : Option ℕ) (xs : List ℕ) (t : TtlvType) (n : ℕ) → type_of (code_at xs 0) ≡ Some t
    → HasSize limit xs n → Forbids limit (message_size xs) → ⊥
HasSize-allowed limit xs t n is h f = taken_allowed (type_of (code_at xs 0)) t limit (message_size xs) n is h f

taken_typed : (o : Option TtlvType) (limit : Option ℕ) (size n : ℕ) → o ≡ None → IsTakenUpTo o limit size n → ⊥
taken_typed None limit size n is h = h
taken_typed (Some t) limit size n is h = cc

-- nothing is read of a message of no type
pub HasSize-typed : (limit : Option ℕ) (xs : List ℕ) (n : ℕ) → type_of (code_at xs 0) ≡ None → HasSize limit xs n → ⊥
HasSize-typed limit xs n is h = taken_typed (type_of (code_at xs 0)) limit (message_size xs) n is h

-- a header, and then the body that it states
pub comes_whole : (limit : Option ℕ) (a b c : Option (List ℕ)) (head message : List ℕ) (n : ℕ) → Consumes a b head
    → length head ≡ 8 → HasSize limit head n
    → Behind b c head message (n - 8) → Arrives limit a c message
comes_whole limit a b c head message n taken long size body =
    let least = HasSize-least limit head n size in
    let total : length message ≡ n =
    ap (λ (l : List ℕ). length l) body.parts ∙ omega (arith, length-append head body.came, body.count) in
    let same : SameHeader message head =
    subst (λ (l : List ℕ). SameHeader l head) (sym body.parts) (same_header head body.came (omega arith)) in
    record {
      consumes = subst (Consumes a c) (sym body.parts) (Consumes-trans a b c _ _ taken body.consumes);
      size = subst (HasSize limit message) (sym total) (HasSize-along limit head message n
          (SameHeader-sym message head same) size);
    }

-- a buffer that was empty has what was read
pub header_came : (a b : Option (List ℕ)) (had head : List ℕ) (n : ℕ) → had ≡ [] → Behind a b had head n
    → Consumes a b head × (length head ≡ n)
header_came a b had head n none more =
    let is : head ≡ more.came = more.parts ∙ ap (λ l. l ++ more.came) none in
    (subst (Consumes a b) (sym is) more.consumes, ap (λ (l : List ℕ). length l) is ∙ more.count)
