use Rattle.ttlv_run.proofs.Naming.{named_then, then_named}
use Rattle.ttlv_run.proofs.laws.an_attribute_is_named_by_its_name.Goals as goal

pub returns : goal.returns
returns c = record {
  named = λ names look bytes met attribute h. named_then names look bytes met attribute h;
  alone = λ names look bytes met attribute h. then_named names look bytes met attribute h;
}
