use Rattle.std.proofs.Common.{◌≡◌, ℕ, ◌+◌, ◌-◌, ◌<◌, ◌≤◌, ◌^◌, List, [], ◌∷◌, ◌++◌, ◌∙◌, sym, ap, subst, drop, length, length-append, append-nil, replicate}
use Rattle.std.proofs.Common.{Option, Some, Bool, false, Result, Ok, Err, Global, inr, arith}
use Rattle.std.proofs.lemmas.List.{length-replicate}
use Rattle.std.specs.Int.{w32, to_be_bytes}
use Rattle.std.specs.Prelude.{MatchResult, IsTrue, vec_capacity, vec_len}
use Rattle.kmip_ttlv_types.specs.{declared.error.Error.Error, declared.typ.TtlvType.TtlvType, ItemTypes.code, ItemTypes.pad_len, Headers.ReadsType}
use Rattle.kmip_ttlv_types.specs.Primitives.{content_of, length_and_content, leaf_rest, ReadsLeaf, WritesLong}
use Rattle.kmip_ttlv_types.specs.Laws.{written_rest, FailsToRead, Rereads}
use Rattle.kmip_ttlv_types.proofs.{InMemory.type_read, InMemory.where_room_written, PlaceLemmas.type_of-code}
use Rattle.kmip_ttlv_types.specs.declared.error.Error.TheVariants as errors
use Rattle.kmip_ttlv_types.proofs.laws.reread.Goals as goal

-- reading from memory that has the bytes never fails
never : IsTrue false → ⊥
never h = cc

-- what the law says of the second reading is what the contract says
as_reread : {T : Type 0} (typ : TtlvType) (bytes_of : T → List ℕ) (tm : Bool) (v : T) (left : Option (List ℕ)) (r : Result T (Error Global))
    → length (content_of typ (bytes_of v)) < 2 ^ 32
    → MatchResult r (λ w. (bytes_of w ≡ content_of typ (bytes_of v)) × (left ≡ Some [])) (FailsToRead tm false (content_of typ (bytes_of v)))
    → Rereads typ bytes_of v r
as_reread typ bytes_of tm v left (Ok w) fits h = (fits, h.0)
as_reread typ bytes_of tm v left (Err errors.OutOfMemory) fits h = fits
as_reread typ bytes_of tm v left (Err (errors.IoError e)) fits h = absurd (never h)
as_reread typ bytes_of tm v left (Err (errors.InvalidTtlvTag text)) fits h = absurd h
as_reread typ bytes_of tm v left (Err (errors.UnexpectedTtlvField x y)) fits h = absurd h
as_reread typ bytes_of tm v left (Err (errors.UnsupportedTtlvType x)) fits h = absurd h
as_reread typ bytes_of tm v left (Err (errors.InvalidTtlvType x)) fits h = absurd h
as_reread typ bytes_of tm v left (Err (errors.InvalidTtlvValueLength x y z)) fits h = absurd h
as_reread typ bytes_of tm v left (Err (errors.InvalidTtlvValue x)) fits h = absurd h
as_reread typ bytes_of tm v left (Err errors.InvalidStateMachineOperation) fits h = absurd h
as_reread typ bytes_of tm v left (Err errors.LengthOverflow) fits h = absurd h

-- how many bytes a leaf takes beside its content
rest_length : (typ : TtlvType) (content : List ℕ) → length (leaf_rest typ content) ≤ length content + 12
unfolding leaf_rest length_and_content
rest_length typ content = omega (
  arith,
  length-append (to_be_bytes w32 (length content) ++ content) (replicate (pad_len (length content)) 0),
  length-append (to_be_bytes w32 (length content)) content,
  length-replicate {A = ℕ} (pad_len (length content)) 0,
)

-- what fits and has room is written
is_written : (typ : TtlvType) (content : List ℕ) (room : ℕ) (a b : Option (List ℕ)) (s : Option ℕ) (e : Error Global) → length content < 2 ^ 32
    → length content + 12 ≤ room → WritesLong {T = Unit {0}} (length content) (leaf_rest typ content) a b (Some room) s (Err e) → ⊥
is_written typ content room a b s e fits enough h =
    never (where_room_written (leaf_rest typ content) (length content) a b room s (Err e) (omega (arith, rest_length typ content)) fits (inr h))

-- a type that was written is read
no_error : (typ : TtlvType) (rest : List ℕ) (left : Option (List ℕ)) (e : Error Global) → ReadsType false (Some (code typ ∷ rest)) left (Err e) → ⊥
no_error typ rest left e h =
    let refused = type_read (code typ) rest left (Err e) h in
    let none = sym (type_of-code typ) ∙ refused.1 in cc

pub returns-in_err-read : goal.returns-in_err-read
unfolding leaf_rest
returns-in_err-read g c =
    let typ = g.T.HasTtlvType.TTLV_TYPE in
    let bytes : List ℕ = g.T.SerializableTtlvType.value_bytes c.args.value.now in
    let there = c.as_slice.ensures.value ∙ c.in_ok-write.ensures.1 ∙ ap (λ (l : List ℕ). l ++ leaf_rest typ (content_of typ bytes)) (c.reserve.ensures.items
    ∙ c.new.ensures.items) in
    absurd (no_error typ (written_rest typ bytes) (Some c.read.new.src.0.now) c.in_err-read.field-0.0
    (subst (λ (l : List ℕ). ReadsType {A = Global} false (Some l) (Some c.read.new.src.0.now) (Err c.in_err-read.field-0.0)) there c.in_err-read.ensures))

pub returns-in_err-write : goal.returns-in_err-write
returns-in_err-write g c =
    let typ = g.T.HasTtlvType.TTLV_TYPE in
    let content : List ℕ = content_of typ (g.T.SerializableTtlvType.value_bytes c.args.value.now) in
    let length-is = c.in_ok-length.ensures in
    let room-is = c.in_ok-reserve.ensures.ok in
    let empty = c.in_ok-reserve.ensures.len in
    let none = c.new.ensures.len in
    absurd (is_written typ content (vec_capacity c.reserve.new.self - vec_len c.reserve.new.self) (Some c.reserve.new.self.items) (Some c.write.new.dst.0.items)
    (Some (vec_capacity c.write.new.dst.0 - vec_len c.write.new.dst.0)) c.in_err-write.field-0.0 (omega arith) (omega arith) c.in_err-write.ensures)

pub returns : goal.returns
unfolding leaf_rest
returns g c =
    let typ = g.T.HasTtlvType.TTLV_TYPE in
    let bytes : List ℕ = g.T.SerializableTtlvType.value_bytes c.args.value.now in
    let takes = g.T.SerializableTtlvType.takes_memory in
    let left = Some c.read-2.new.src.0.now in
    let written = c.in_ok-write.ensures in
    let all = sym c.in_ok-read.ensures ∙ c.as_slice.ensures.value ∙ written.1 ∙ ap (λ (l : List ℕ). l ++ leaf_rest typ (content_of typ bytes))
    (c.reserve.ensures.items ∙ c.new.ensures.items) in
    let there : c.read.new.src.0.now ≡ written_rest typ bytes ++ [] = ap (drop 1) all ∙ sym (append-nil (written_rest typ bytes)) in
    let read = subst (λ (l : List ℕ). ReadsLeaf typ g.T.SerializableTtlvType.value_bytes takes false (Some l) left c.read-2.result) there c.read-2.ensures in
    as_reread typ g.T.SerializableTtlvType.value_bytes takes c.args.value.now left c.read-2.result written.0
    (c.what_was_written_is_read_back.ensures written.0 false [] left c.read-2.result read)
