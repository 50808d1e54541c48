use Rattle.std.proofs.Common.{rules, refl, ap, ◌∙◌}
use Rattle.kmip_ttlv_base.specs.Errors.{kind_of, view_of_kind, location_of, view_of_location}
use Rattle.kmip_ttlv_types.specs.Held.{held}
use Rattle.kmip_ttlv_ser.specs.{Gathers.Lent, EncodeResults.WrittenTo, EncodeResults.IsNotWritten}
use Rattle.kmip_ttlv_ser.proofs.Outputs.{gathered_nothing, flushed, whole_reached, written_to, partly_written, not_written}
use Rattle.kmip_ttlv_ser.proofs.serializer.to_writer_by_plan.Goals as goal

pub returns-in-None : goal.returns-in-None
returns-in-None g c =
    let of = held g.S.Sink.emitted g.S.Sink.room in
    let m = c.in_ok-plan.ensures in
    let start : Lent = record { name = c.new.result.sink.ghost_name; before = of c.args.writer.now } in
    let done = flushed (c.emit-gathered.ensures m.trees start m.are (c.deref.ensures.value ∙ m.kept)
    (gathered_nothing start refl (ap of c.new.ensures.sink) c.new.ensures.empty c.new.ensures.failure))
    c.flush.ensures.same_reference c.flush.ensures.sent c.flush.ensures.empty in
    let name = done.same ∙ c.new.ensures.same_reference in
    let written : WrittenTo (g.T.Serialize.stated c.args.value.now) (of c.args.writer.now) (of c.flush.new.self.sink.now) =
    written_to refl m (of c.args.writer.now) (of c.flush.new.self.sink.now) (whole_reached done c.flush.ensures.empty) c.in-None.is in
    search rules

pub returns : goal.returns
returns g c =
    let of = held g.S.Sink.emitted g.S.Sink.room in
    let m = c.in_ok-plan.ensures in
    let start : Lent = record { name = c.new.result.sink.ghost_name; before = of c.args.writer.now } in
    let done = flushed (c.emit-gathered.ensures m.trees start m.are (c.deref.ensures.value ∙ m.kept)
    (gathered_nothing start refl (ap of c.new.ensures.sink) c.new.ensures.empty c.new.ensures.failure))
    c.flush.ensures.same_reference c.flush.ensures.sent c.flush.ensures.empty in
    let name = done.same ∙ c.new.ensures.same_reference in
    let kind = view_of_kind (kind_of c.new-in-Some.result) in
    let place = view_of_location (location_of c.new-in-Some.result) in
    let written : IsNotWritten (g.T.Serialize.stated c.args.value.now) (of c.args.writer.now) (of c.flush.new.self.sink.now) kind place =
    not_written (ap view_of_kind c.new-in-Some.ensures.kind) (ap view_of_location c.new-in-Some.ensures.location ∙ c.unknown.ensures)
    (partly_written refl m (of c.args.writer.now) (of c.flush.new.self.sink.now) (whole_reached done c.flush.ensures.empty) c.in-Some.is) in
    search rules
