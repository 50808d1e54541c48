use Rattle.std.proofs.Common.{take}
use Rattle.std.specs.Fmt.{HasWritten, IsPlainFormatter}
use Rattle.kmip_ttlv_base.specs.LocationTexts.{more_tags}
use Rattle.kmip_ttlv_base.proofs.location.write_more_tags.Given as goal

abbrev pub invariant-loop-tag : goal.invariant-loop-tag
invariant-loop-tag g l =
    IsPlainFormatter l.initial.f → HasWritten g.W.Write.write_str_gives l.initial.f (more_tags (take l.tag-index l.tags)) l.f
