use Rattle.std.proofs.Common.{◌∙◌, ap₂, refl, sym}
use Rattle.kmip_ttlv_types.specs.Held.{held}
use Rattle.ttlv_run.specs.{Compares.compared, Compares.unread, Files.greater, Texts.names_of}
use Rattle.ttlv_run.proofs.Comparing.{ends_as}
use Rattle.ttlv_run.proofs.compared.run_compared.Goals as goal

pub returns-then-is_unread : goal.returns-then-is_unread
returns-then-is_unread g c =
    let of = held g.E.Sink.emitted g.E.Sink.room in
    record {
      opener = c.gather_file-first.new.opener;
      between = of c.gather_file-first.new.errors;
      behind = of c.gather_file-second.new.errors;
      first = c.gather_file-first.result.0.items;
      second = c.gather_file-second.result.0.items;
      one = c.gather_file-first.result.1;
      other = c.gather_file-second.result.1;
      first_read = c.gather_file-first.ensures;
      second_read = c.gather_file-second.ensures;
      ended = unread (sym c.is_unread.ensures ∙ c.if-is_unread.true) refl refl
          (c.greater-status.ensures ∙ ap₂ greater c.status_in.ensures c.status_in-2.ensures);
    }

pub returns : goal.returns
returns g c =
    let has = held g.W.Sink.emitted g.W.Sink.room in
    let of = held g.E.Sink.emitted g.E.Sink.room in
    let status = c.greater-status.ensures ∙ ap₂ greater c.status_in.ensures c.status_in-2.ensures in
    record {
      opener = c.gather_file-first.new.opener;
      between = of c.gather_file-first.new.errors;
      behind = of c.gather_file-second.new.errors;
      first = c.gather_file-first.result.0.items;
      second = c.gather_file-second.result.0.items;
      one = c.gather_file-first.result.1;
      other = c.gather_file-second.result.1;
      first_read = c.gather_file-first.ensures;
      second_read = c.gather_file-second.ensures;
      ended = compared c.respond_differences-alike.result (sym c.is_unread.ensures ∙ c.if-is_unread.false)
          (ends_as (names_of c.args.names.now) (has c.args.output.now) (has c.respond_differences-alike.new.output) (of c.gather_file-second.new.errors)
          (of c.respond_differences-alike.new.errors) c.respond_differences-alike.result c.as_slice.ensures.value c.as_slice-2.ensures.value
          c.respond_differences-alike.ensures)
          (c.greater.ensures ∙ ap₂ greater status c.status_in-3.ensures);
    }
