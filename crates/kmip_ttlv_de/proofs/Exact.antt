-- If the bytes are known and reading them can't fail, the result is determined.
use Rattle.std.proofs.Common.{◌≡◌, ℕ, ◌+◌, ◌<◌, ◌≤◌, Bool, false, List, [], ◌++◌, ◌⊎◌, inl, inr, Option, None, Some, Result, Ok, Err, sym, ap, ◌∙◌, subst}
use Rattle.std.proofs.Common.{length, take, drop, refl, arith, length-append, drop_at, take_all}
use Rattle.std.proofs.lemmas.List.{take-append-le}
use Rattle.std.specs.{IoError.error_kind, declared.io.Error.Error as IoFault, declared.io.ErrorKind.TheVariants.UnexpectedEof, Io.KnownBytes.Consumes}
use Rattle.kmip_ttlv_types.specs.{declared.typ.TtlvType.TtlvType, ItemTypes.type_of, Places.code_at, Streams.IsShort}
use Rattle.kmip_ttlv_base.specs.declared.error.Error.{Error}
use Rattle.kmip_ttlv_base.specs.Errors.{Kind, Location, io_error, exceeds_limit, kind_of, view_of_kind, location_of, view_of_location, malformed, IsMemory}
use Rattle.kmip_ttlv_reader.specs.{Steps.Fault, ReadResults.seen, ReadResults.end_fault}
use Rattle.kmip_ttlv_de.specs.StreamMessages.{message_size, size_fault, type_fault, Forbids, HasSize, behind_header, behind_tag, ArrivesUntyped, IsIoFault}
use Rattle.kmip_ttlv_de.specs.StreamMessages.{LackCause, no_memory, no_bytes, IsInBuffer, ArrivesOver, FailsToArrive, in_header, of_no_type, over_limit}
use Rattle.kmip_ttlv_de.specs.StreamMessages.{in_body, Gives, Ends, OrMemory, TakesFirst, Exactly}
use Rattle.kmip_ttlv_de.proofs.Fronts.{SameHeader, same_header, SameHeader-sym, HasSize-along, HasSize-least, HasSize-one, HasSize-allowed, HasSize-typed}
use Rattle.kmip_ttlv_base.specs.declared.error.MalformedTtlvError.TheVariants as malformeds

-- the bytes that were read, and those that are left
record Parts (bytes taken : List ℕ) (new : Option (List ℕ)) : Type 0 where
  left : List ℕ
  is_left : new ≡ Some left
  parts : bytes ≡ taken ++ left

parts_of : (bytes taken : List ℕ) (new : Option (List ℕ)) → Consumes (Some bytes) new taken → Parts bytes taken new
parts_of bytes taken None h = absurd h
parts_of bytes taken (Some left) h = record { left = left; is_left = refl; parts = h }

parts_length : (bytes taken : List ℕ) (new : Option (List ℕ)) (p : Parts bytes taken new)
    → length bytes ≡ length taken + length p.left
parts_length bytes taken new p = ap (λ (l : List ℕ). length l) p.parts ∙ length-append taken p.left

parts_header : (bytes taken : List ℕ) (new : Option (List ℕ)) → Parts bytes taken new → 8 ≤ length taken
    → SameHeader bytes taken
parts_header bytes taken new p long =
    subst (λ (l : List ℕ). SameHeader l taken) (sym p.parts) (same_header taken p.left long)

takes_first : (bytes taken : List ℕ) (n : ℕ) (new reused : Option (List ℕ)) → Parts bytes taken new → length taken ≡ n
    → IsInBuffer reused taken → TakesFirst bytes n new reused × (take n bytes ≡ taken)
takes_first bytes taken n new reused p long k =
    let front : take n bytes ≡ taken =
    ap (take n) p.parts ∙ take-append-le n taken p.left (omega arith) ∙ take_all n taken (omega arith) in (
      record {
        left = p.is_left ∙ ap Some (sym (ap (drop n) p.parts ∙ drop_at taken p.left n long));
        is_in_buffer = subst (IsInBuffer reused) (sym front) k;
      },
      front,
    )

or_not : {T A : Type 0} (r : Result T (Error A)) (P : Type 0) → P → OrMemory r P
or_not (Ok x) P h = h
or_not (Err e) P h = inr h

gives_exact : {T A : Type 0} (answers : List ℕ → Result T (Error A) → Type 0) (limit : Option ℕ) (bytes : List ℕ)
    (new reused : Option (List ℕ)) (r : Result T (Error A))
    → Gives answers limit (Some bytes) new reused r → Exactly answers limit bytes new reused r
gives_exact answers limit bytes new reused r g =
    let p = parts_of bytes g.message new g.comes.consumes in
    let long : length bytes ≡ length g.message + length p.left = parts_length bytes g.message new p in
    let least : 8 ≤ length g.message = HasSize-least limit g.message (length g.message) g.comes.size in
    let size : HasSize limit bytes (length g.message) =
    HasSize-along limit g.message bytes _ (SameHeader-sym bytes g.message
    (parts_header bytes g.message new p least)) g.comes.size in
    record {
      in_header = λ low. absurd (omega arith);
      untyped = λ there none. absurd (HasSize-typed limit bytes _ none size);
      over_limit = λ there t is over. absurd (HasSize-allowed limit bytes t _ is size over);
      in_body = λ there n due low. let same : length g.message ≡ n =
          HasSize-one limit bytes _ n size due in absurd (omega arith);
      whole = λ there n due enough.
          let same : length g.message ≡ n = HasSize-one limit bytes _ n size due in
          let first = takes_first bytes g.message n new reused p same g.is_in_buffer in
          or_not r _ (first.0, subst (λ (l : List ℕ). answers l r) (sym first.1) g.answer);
    }

memory_exact : {T A : Type 0} (answers : List ℕ → Result T (Error A) → Type 0) (limit : Option ℕ) (bytes : List ℕ)
    (new reused : Option (List ℕ)) (e : Error A)
    → IsMemory e → Exactly answers limit bytes new reused (Err e)
memory_exact answers limit bytes new reused e lack = record {
  in_header = λ low. inl lack;
  untyped = λ there none. (inl lack, inl lack);
  over_limit = λ there t is over. (inl lack, inl lack);
  in_body = λ there n due low. inl lack;
  whole = λ there n due enough. inl lack;
}

-- an error of this kind and place
seen_is : {A : Type 0} (e : Error A) (f : Fault) → view_of_kind (kind_of e) ≡ f.why → view_of_location (location_of e) ≡ f.place → seen e ≡ f
seen_is e f kind place =
    ap (λ (k : Kind). let g : Fault = record { why = k; place = view_of_location (location_of e) } in g) kind
    ∙ ap (λ (l : Location). let g : Fault = record { why = f.why; place = l } in g) place

-- an early end, as a fault
ends_early : {A : Type 0} (fault : IoFault) (e : Error A) → IsIoFault fault e → error_kind fault ≡ UnexpectedEof
    → IsMemory e ⊎ (seen e ≡ end_fault)
ends_early fault e io eof = inr (seen_is e end_fault (ap view_of_kind io.kind ∙ ap io_error eof) io.place)

lack_of : {A : Type 0} (a : Option (List ℕ)) (n : ℕ) (e : Error A) → LackCause false a n e
    → IsMemory e ⊎ ((fault : IoFault) × IsIoFault fault e × (error_kind fault ≡ UnexpectedEof) × IsShort a n)
lack_of a n e (no_memory lack) = inl lack
lack_of a n e (no_bytes fault io (inl fails)) = absurd (cc)
lack_of a n e (no_bytes fault io (inr short)) = inr (fault, io, short.0, short.1)

header_exact : {T A : Type 0} (answers : List ℕ → Result T (Error A) → Type 0) (limit : Option ℕ) (bytes : List ℕ)
    (new reused : Option (List ℕ)) (e : Error A)
    → LackCause false (Some bytes) 8 e → Exactly answers limit bytes new reused (Err e)
header_exact answers limit bytes new reused e cause = elim (lack_of (Some bytes) 8 e cause) [
  | inl lack ↦ memory_exact answers limit bytes new reused e lack
  | inr w ↦
      let short : length bytes < 8 = w.3 in
      record {
        in_header = λ low. ends_early w.0 e w.1 w.2;
        untyped = λ there none. absurd (omega arith);
        over_limit = λ there t is over. absurd (omega arith);
        in_body = λ there n due low. absurd (omega arith);
        whole = λ there n due enough. absurd (omega arith);
      }
]

over_place : (bytes head : List ℕ) (u t : TtlvType) → SameHeader bytes head → u ≡ t
    → behind_header head u ≡ behind_header bytes t
over_place bytes head u t same one = ap (λ v. behind_header head v) one ∙ ap (λ (n : ℕ). let l : Location = record
    { offset = Some 8; parents = []; tag = Some n; typ = Some t } in l) (sym same.tag)

over_exact : {T A : Type 0} (answers : List ℕ → Result T (Error A) → Type 0) (limit : Option ℕ) (bytes : List ℕ)
    (new reused : Option (List ℕ)) (head : List ℕ) (e : Error A)
    → ArrivesOver limit (Some bytes) new head e → IsInBuffer reused head → Exactly answers limit bytes new reused (Err e)
over_exact answers limit bytes new reused head e comes k =
    let p = parts_of bytes head new comes.consumes in
    let eight : length head ≡ 8 = comes.length_is in
    let long : length bytes ≡ length head + length p.left = parts_length bytes head new p in
    let same = parts_header bytes head new p (omega arith) in
    let typ : type_of (code_at bytes 0) ≡ Some comes.over.typ = ap type_of same.code ∙ comes.over.is_typ in
    let over : Forbids limit (message_size bytes) = subst (Forbids limit) (sym same.size) comes.over.over in
    let first = takes_first bytes head 8 new reused p eight k in
    record {
      in_header = λ low. absurd (omega arith);
      untyped = λ there none. absurd (cc);
      over_limit = λ there t is h.
          let one : comes.over.typ ≡ t = cc in (
            inr (seen_is e (size_fault bytes t) (ap view_of_kind comes.over.kind ∙ ap exceeds_limit (sym same.size)) (comes.over.place
                ∙ over_place bytes head comes.over.typ t same one)),
            inr first.0,
          );
      in_body = λ there n due low. absurd (HasSize-allowed limit bytes comes.over.typ n typ due over);
      whole = λ there n due enough. absurd (HasSize-allowed limit bytes comes.over.typ n typ due over);
    }

untyped_place : (bytes head : List ℕ) → SameHeader bytes head → behind_tag head ≡ behind_tag bytes
untyped_place bytes head same = ap (λ (n : ℕ). let l : Location = record
    { offset = Some 3; parents = []; tag = Some n; typ = None } in l) (sym same.tag)

untyped_exact : {T A : Type 0} (answers : List ℕ → Result T (Error A) → Type 0) (limit : Option ℕ) (bytes : List ℕ)
    (new reused : Option (List ℕ)) (head : List ℕ) (e : Error A)
    → ArrivesUntyped (Some bytes) new head e → IsInBuffer reused head → Exactly answers limit bytes new reused (Err e)
untyped_exact answers limit bytes new reused head e comes k =
    let p = parts_of bytes head new comes.consumes in
    let eight : length head ≡ 8 = comes.length_is in
    let long : length bytes ≡ length head + length p.left = parts_length bytes head new p in
    let same = parts_header bytes head new p (omega arith) in
    let none : type_of (code_at bytes 0) ≡ None = ap type_of same.code ∙ comes.untyped.typ in
    let first = takes_first bytes head 8 new reused p eight k in
    record {
      in_header = λ low. absurd (omega arith);
      untyped = λ there is. (
        inr (seen_is e (type_fault bytes) (comes.untyped.kind ∙ ap (λ (n : ℕ). malformed (malformeds.InvalidType n)) (sym same.code)) (comes.untyped.place
            ∙ untyped_place bytes head same)),
        inr first.0,
      );
      over_limit = λ there t is h. absurd (cc);
      in_body = λ there n due low. absurd (HasSize-typed limit bytes n none due);
      whole = λ there n due enough. absurd (HasSize-typed limit bytes n none due);
    }

body_exact : {T A : Type 0} (answers : List ℕ → Result T (Error A) → Type 0) (limit : Option ℕ) (bytes : List ℕ)
    (new reused : Option (List ℕ)) (head : List ℕ) (mid : Option (List ℕ)) (n : ℕ) (e : Error A)
    → Consumes (Some bytes) mid head → length head ≡ 8 → HasSize limit head (8 + n) → LackCause false mid n e
    → Exactly answers limit bytes new reused (Err e)
body_exact answers limit bytes new reused head mid n e taken eight size cause =
    let p = parts_of bytes head mid taken in
    let long : length bytes ≡ length head + length p.left = parts_length bytes head mid p in
    let same = parts_header bytes head mid p (omega arith) in
    let all : HasSize limit bytes (8 + n) = HasSize-along limit head bytes _ (SameHeader-sym bytes head same) size in
    elim (lack_of mid n e cause) [
      | inl lack ↦ memory_exact answers limit bytes new reused e lack
      | inr w ↦
          let short : length p.left < n = subst (λ (o : Option (List ℕ)). IsShort o n) p.is_left w.3 in
          record {
            in_header = λ low. absurd (omega arith);
            untyped = λ there none. absurd (HasSize-typed limit bytes _ none all);
            over_limit = λ there t is over. absurd (HasSize-allowed limit bytes t _ is all over);
            in_body = λ there m due low. ends_early w.0 e w.1 w.2;
            whole = λ there m due enough. let one : 8 + n ≡ m =
                HasSize-one limit bytes _ m all due in absurd (omega arith);
          }
    ]

stops_exact : {T A : Type 0} (answers : List ℕ → Result T (Error A) → Type 0) (limit : Option ℕ) (bytes : List ℕ)
    (new reused : Option (List ℕ)) (e : Error A)
    → FailsToArrive false limit (Some bytes) new reused e → Exactly answers limit bytes new reused (Err e)
stops_exact answers limit bytes new reused e (in_header lacks) =
    header_exact answers limit bytes new reused e lacks.cause
stops_exact answers limit bytes new reused e (of_no_type head comes k) =
    untyped_exact answers limit bytes new reused head e comes k
stops_exact answers limit bytes new reused e (over_limit head comes k) =
    over_exact answers limit bytes new reused head e comes k
stops_exact answers limit bytes new reused e (in_body head mid n taken long size lacks) =
    body_exact answers limit bytes new reused head mid n e taken long size lacks.cause

ends_exact : {T A : Type 0} (answers : List ℕ → Result T (Error A) → Type 0) (limit : Option ℕ) (bytes : List ℕ)
    (new reused : Option (List ℕ)) (r : Result T (Error A))
    → Ends answers false limit (Some bytes) new reused r → Exactly answers limit bytes new reused r
ends_exact answers limit bytes new reused (Ok x) gives = gives_exact answers limit bytes new reused (Ok x) gives
ends_exact answers limit bytes new reused (Err e) (inl gives) = gives_exact answers limit bytes new reused (Err e) gives
ends_exact answers limit bytes new reused (Err e) (inr stops) = stops_exact answers limit bytes new reused e stops

-- what is returned for known bytes of a source that can't fail
pub exact : {T A : Type 0} (answers : List ℕ → Result T (Error A) → Type 0) (can_fail : Bool) (limit : Option ℕ)
    (old new reused : Option (List ℕ)) (r : Result T (Error A))
    → Ends answers can_fail limit old new reused r → can_fail ≡ false → (bytes : List ℕ) → old ≡ Some bytes
    → Exactly answers limit bytes new reused r
exact answers can_fail limit old new reused r ends off bytes there =
    ends_exact answers limit bytes new reused r (subst (λ (o : Option (List ℕ)). Ends answers false limit o new reused r)
    there (subst (λ (b : Bool). Ends answers b limit old new reused r) off ends))
