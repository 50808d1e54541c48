use Rattle.std.proofs.Common.{◌^◌, ◌<◌, subst, sym, ap, ◌∙◌, rules, Err}
use Rattle.std.specs.{Int.w32, Int.to_be_bytes, Io.KnownBytes.Consumes}
use Rattle.std.proofs.lemmas.Result.{err_from_is_err_and}
use Rattle.kmip_ttlv_types.specs.Primitives.{ReadsLeaf}
use Rattle.kmip_ttlv_types.proofs.LeafReading.{content_fails, padding_fails, leaf_read}
use Rattle.kmip_ttlv_types.proofs.primitive.SerializableTtlvType.read.Goals as goal

pub returns-in_err-value : goal.returns-in_err-value
returns-in_err-value g c =
    let low : c.deref-length.result.now < 2 ^ 32 = search rules in
    let taken : Consumes (g.S.Source.left c.args.src.now) (g.S.Source.left c.read.new.src) (to_be_bytes w32 c.deref-length.result.now) = search rules in
    let h = content_fails _ _ g.Self.HasTtlvType.TTLV_TYPE g.Self.SerializableTtlvType.value_bytes g.Self.SerializableTtlvType.takes_memory
    g.S.Source.can_fail _ _ _ _ low taken _ c.in_err-value.ensures in
    let exit = err_from_is_err_and c.from_residual-in_err-value.result c.from_residual-in_err-value.ensures.1 in
    subst (ReadsLeaf g.Self.HasTtlvType.TTLV_TYPE g.Self.SerializableTtlvType.value_bytes g.Self.SerializableTtlvType.takes_memory g.S.Source.can_fail
    (g.S.Source.left c.args.src.now) (g.S.Source.left c.read_value.new.src)) (sym (exit.1 ∙ ap Err exit.2)) h

pub returns-in_err-read_pad_bytes : goal.returns-in_err-read_pad_bytes
returns-in_err-read_pad_bytes g c =
    let low : c.deref-length.result.now < 2 ^ 32 = search rules in
    let taken : Consumes (g.S.Source.left c.args.src.now) (g.S.Source.left c.read.new.src) (to_be_bytes w32 c.deref-length.result.now) = search rules in
    let value = c.in_ok-value.ensures in
    let h = padding_fails _ _ g.Self.HasTtlvType.TTLV_TYPE g.Self.SerializableTtlvType.value_bytes g.Self.SerializableTtlvType.takes_memory
    g.S.Source.can_fail (g.S.Source.left c.args.src.now) (g.S.Source.left c.read.new.src) (g.S.Source.left c.read_value.new.src) c.deref-length.result.now
    low taken (g.S.Source.left c.read_pad_bytes.new.src) c.in_ok-value.value value.0 value.1 value.2 (Unit {0}) _ c.in_err-read_pad_bytes.ensures in
    let exit = err_from_is_err_and c.from_residual-in_err-read_pad_bytes.result c.from_residual-in_err-read_pad_bytes.ensures.1 in
    subst (ReadsLeaf g.Self.HasTtlvType.TTLV_TYPE g.Self.SerializableTtlvType.value_bytes g.Self.SerializableTtlvType.takes_memory g.S.Source.can_fail
    (g.S.Source.left c.args.src.now) (g.S.Source.left c.read_pad_bytes.new.src)) (sym (exit.1 ∙ ap Err exit.2)) h

pub returns : goal.returns
returns g c =
    let low : c.deref-length.result.now < 2 ^ 32 = search rules in
    let taken : Consumes (g.S.Source.left c.args.src.now) (g.S.Source.left c.read.new.src) (to_be_bytes w32 c.deref-length.result.now) = search rules in
    let value = c.in_ok-value.ensures in
    leaf_read _ (Unit {0}) g.Self.HasTtlvType.TTLV_TYPE g.Self.SerializableTtlvType.value_bytes g.Self.SerializableTtlvType.takes_memory g.S.Source.can_fail _ _
    _ _ low taken _ _ value.0 value.1 value.2 (Unit {0}) tt c.in_ok-read_pad_bytes.ensures
