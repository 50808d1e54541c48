use Rattle.std.proofs.Common.{refl}
use Rattle.ttlv_run.proofs.Showing.{passed_by}
use Rattle.ttlv_run.proofs.laws.an_item_is_shown_by_a_tag_of_its_own_or_around_it.Goals as goal

pub returns : goal.returns
returns c = λ names look bytes met i tags is. passed_by names look bytes tags is i.offset i met refl
