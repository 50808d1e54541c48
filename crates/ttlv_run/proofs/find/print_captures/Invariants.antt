use Rattle.std.proofs.Common.{◌≡◌, ◌<◌, ◌-◌, true, false, [], length}
use Rattle.kmip_ttlv_types.specs.Held.{held, Gets}
use Rattle.ttlv_run.specs.Texts.{names_of}
use Rattle.ttlv_run.proofs.Finding.{Given}
use Rattle.ttlv_run.proofs.find.print_captures.Given as goal

abbrev pub invariant-messages : goal.invariant-messages
invariant-messages g l = record {
  text : l.search.text.now ≡ l.input;
  given : Given (names_of l.names) l.look l.input l.search.offset (held g.W.Sink.emitted g.W.Sink.room l.fn.output)
      (held g.W.Sink.emitted g.W.Sink.room l.output);
  found : l.is_found ≡ true → 0 < l.search.offset;
  none : l.is_found ≡ false
      → (l.search.offset ≡ 0) × Gets (held g.W.Sink.emitted g.W.Sink.room l.fn.output) (held g.W.Sink.emitted g.W.Sink.room l.output) [];
}

abbrev pub decreases-messages : goal.decreases-messages
decreases-messages g l = length l.input - l.search.offset
