use Rattle.std.proofs.Common.{ℕ, List, length, replicate, subst, sym, ap, ◌∙◌, Err}
use Rattle.std.specs.Io.KnownBytes.{Appends}
use Rattle.kmip_ttlv_types.proofs.Padding.{take-eight}
use Rattle.std.proofs.lemmas.Result.{err_from_is_err_and}
use Rattle.kmip_ttlv_types.specs.{ItemTypes.pad_len, Headers.Writes}
use Rattle.kmip_ttlv_types.specs.Streams.{AppendsFront, UsesRoom, IsTight}
use Rattle.kmip_ttlv_types.proofs.primitive.SerializableTtlvType.write_pad_bytes.Goals as goal

pub returns-in_err-send : goal.returns-in_err-send
returns-in_err-send g c =
    let zeros = take-eight c.calc_pad_bytes-count.result c.args.value_len 0 c.calc_pad_bytes-count.ensures.value c.calc_pad_bytes-count.ensures.small in
    let h = c.in_err-send.ensures in
    let exit = err_from_is_err_and c.from_residual.result c.from_residual.ensures.1 in
    subst (Writes (replicate (pad_len c.args.value_len) 0) (g.S.Sink.emitted c.args.dst.now) (g.S.Sink.emitted c.send.new.self) (g.S.Sink.room c.args.dst.now)
    (g.S.Sink.room c.send.new.self)) (sym (exit.1 ∙ ap Err exit.2)) (
      subst (AppendsFront (g.S.Sink.emitted c.args.dst.now) (g.S.Sink.emitted c.send.new.self)) zeros h.err,
      subst (λ (l : List ℕ). IsTight (g.S.Sink.room c.args.dst.now) (length l)) zeros h.tight,
    )

pub returns : goal.returns
returns g c =
    let zeros = take-eight c.calc_pad_bytes-count.result c.args.value_len 0 c.calc_pad_bytes-count.ensures.value c.calc_pad_bytes-count.ensures.small in
    let h = c.in_ok-send.ensures in (
      subst (Appends (g.S.Sink.emitted c.args.dst.now) (g.S.Sink.emitted c.send.new.self)) zeros h.ok,
      subst (λ (l : List ℕ). UsesRoom (g.S.Sink.room c.args.dst.now) (g.S.Sink.room c.send.new.self) (length l)) zeros h.room,
    )
