use Rattle.ttlv_run.proofs.Pages.{no_markup}
use Rattle.ttlv_run.proofs.laws.a_value_is_no_markup.Goals as goal

pub returns : goal.returns
returns c = no_markup
