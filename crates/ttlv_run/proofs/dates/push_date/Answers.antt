use Rattle.std.proofs.Common.{sym, subst, ◌/◌, ◌%◌}
use Rattle.std.specs.Str.{IsUtf8}
use Rattle.std.proofs.lemmas.Str.{IsUtf8-from_ascii}
use Rattle.ttlv_run.proofs.Calendar.{day_ascii, time_ascii}
use Rattle.ttlv_run.proofs.dates.push_date.Goals as goal

pub from_utf8_unchecked-requires : goal.from_utf8_unchecked-requires
from_utf8_unchecked-requires g c = subst IsUtf8 (sym c.day_text-day.ensures) (IsUtf8-from_ascii _ (day_ascii (c.args.seconds / 86_400)))

pub from_utf8_unchecked-requires-2 : goal.from_utf8_unchecked-requires-2
from_utf8_unchecked-requires-2 g c = subst IsUtf8 (sym c.time_text-time.ensures) (IsUtf8-from_ascii _ (time_ascii (c.args.seconds % 86_400)))
