use Rattle.std.proofs.Common.{◌+◌, ◌∙◌, ℕ, ap}
use Rattle.ttlv_run.specs.Dates.{calendar_text, year_text, day_text}
use Rattle.ttlv_run.proofs.dates.day_text.Goals as goal

pub returns : goal.returns
unfolding day_text
returns c =
    c.calendar_text.ensures ∙ ap (λ (q : ℕ × ℕ). calendar_text c.in_year-year.result.0 q.0 (q.1 + 1)) c.in_month-month.ensures.is
    ∙ ap year_text c.in_year-year.ensures.is
