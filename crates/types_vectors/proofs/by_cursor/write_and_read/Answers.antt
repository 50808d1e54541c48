use Rattle.std.proofs.Common.{◌≡◌, ℕ, List, [], ◌++◌, ◌∙◌, sym, ap, subst, drop, append-nil, Option, Some, Bool, false, Result, Ok, Err, IfOk, Global}
use Rattle.std.specs.Prelude.{MatchResult}
use Rattle.kmip_ttlv_types.specs.{declared.error.Error.Error, declared.typ.TtlvType.TtlvType, Laws.written_rest, Laws.FailsToRead}
use Rattle.kmip_ttlv_types.specs.Primitives.{content_of, leaf_rest, ReadsLeaf}
use Rattle.types_vectors.proofs.by_cursor.write_and_read.Goals as goal

-- what the law says of the second reading is what the contract says
as_promised : {T : Type 0} (typ : TtlvType) (bytes_of : T → List ℕ) (tm : Bool) (v : T) (left : Option (List ℕ)) (r : Result T (Error Global))
    → MatchResult r (λ w. (bytes_of w ≡ content_of typ (bytes_of v)) × (left ≡ Some [])) (FailsToRead tm false (content_of typ (bytes_of v)))
    → IfOk r (λ w. bytes_of w ≡ content_of typ (bytes_of v))
as_promised typ bytes_of tm v left (Ok w) h = h.0
as_promised typ bytes_of tm v left (Err e) h = tt

pub returns : goal.returns
unfolding leaf_rest
returns g c =
    let typ = g.T.HasTtlvType.TTLV_TYPE in
    let bytes_of = g.T.SerializableTtlvType.value_bytes in
    let bytes : List ℕ = bytes_of c.args.value.now in
    let takes = g.T.SerializableTtlvType.takes_memory in
    let now = c.read.new.src.0 in
    let later = c.read-2.new.src.0 in
    let left = Some (drop later.pos later.inner.now) in
    let written = c.in_ok-write.ensures in
    let from_start : drop c.new-2.result.pos c.new-2.result.inner.now ≡ c.as_slice.result.now =
    ap (λ (n : ℕ). drop n c.new-2.result.inner.now) c.new-2.ensures.position ∙ ap (λ b. b.now) c.new-2.ensures.inner in
    let all = sym c.in_ok-read.ensures ∙ from_start ∙ c.as_slice.ensures.value ∙ written.1
    ∙ ap (λ (l : List ℕ). l ++ leaf_rest typ (content_of typ bytes)) c.new.ensures.items in
    let there : drop now.pos now.inner.now ≡ written_rest typ bytes ++ [] = ap (drop 1) all ∙ sym (append-nil (written_rest typ bytes)) in
    let read = subst (λ (l : List ℕ). ReadsLeaf typ bytes_of takes false (Some l) left c.read-2.result) there c.read-2.ensures in
    as_promised typ bytes_of takes c.args.value.now left c.read-2.result (c.what_was_written_is_read_back.ensures written.0 false [] left c.read-2.result read)
