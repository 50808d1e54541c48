use Rattle.std.proofs.Common.{length, ◌-◌, ◌≤◌}
use Rattle.kmip_ttlv_util.specs.Pieces.{SomeText}
use Rattle.ttlv_run.specs.Texts.{names_of}
use Rattle.ttlv_run.proofs.Windows.{UpTo}
use Rattle.ttlv_run.proofs.messages.print_all.Given as goal

abbrev pub invariant-messages : goal.invariant-messages
invariant-messages g l = record {
  within : l.at ≤ length l.bytes;
  whole : SomeText (UpTo (names_of l.names) l.task l.base l.bytes l.last l.at) (λ t. g.S.TextSink.adds l.fn.out t l.out);
}

abbrev pub decreases-messages : goal.decreases-messages
decreases-messages g l = length l.bytes - l.at
