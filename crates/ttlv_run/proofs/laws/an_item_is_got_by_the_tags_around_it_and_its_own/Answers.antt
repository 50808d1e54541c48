use Rattle.ttlv_run.proofs.Paths.{got, passed}
use Rattle.ttlv_run.proofs.laws.an_item_is_got_by_the_tags_around_it_and_its_own.Goals as goal

pub returns : goal.returns
returns c = record {
  got = λ names look at bytes p es met i path is meets deep same. got names look bytes path is meets i deep at same;
  others = λ names look at bytes p es met i path is meets deep other. passed names look bytes path is meets i deep at other;
}
