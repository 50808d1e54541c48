use Rattle.std.proofs.Common.{rules}
use Rattle.kmip_ttlv_types.specs.Held.{held}
use Rattle.kmip_ttlv_util.specs.{Pieces.buffered, Pretty.IsPrinted, TagNames.name_in}
use Rattle.kmip_ttlv_util.proofs.Saying.{closed_lent, lent_buffer}
use Rattle.kmip_ttlv_util.proofs.pretty.write_printed.Goals as goal

pub returns : goal.returns
returns g c =
    let of = buffered g.S.Sink.emitted g.S.Sink.room in
    let new = c.new-pieces.ensures in
    let printed = c.print_to-printed in
    let done = closed_lent (IsPrinted (name_in c.args.names.now) c.args.closed c.args.bytes.now) printed.result c.close.result (of c.new-pieces.result)
    (of printed.new.out) (of c.close.new.self) _ (held g.S.Sink.emitted g.S.Sink.room c.args.writer.now)
    (lent_buffer g.S.Sink.emitted g.S.Sink.room c.new-pieces.result new.same_reference new.sink new.empty new.going)
    printed.ensures.ok printed.ensures.err c.close.ensures in
    let name = done.0 in
    let written = done.1 in
    search rules
