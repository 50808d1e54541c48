use Rattle.ttlv_run.proofs.{Gathering.of_gather, TrafficTexts.of_print}
use Rattle.ttlv_run.proofs.run.respond.Goals as goal

pub returns-in-Print : goal.returns-in-Print
returns-in-Print g c = rw c.in-Print.is (of_print _ _ _ _ _ c.print_asked.result c.print_asked.ensures)

pub returns-in-Gather : goal.returns-in-Gather
returns-in-Gather g c = rw c.in-Gather.is (of_gather _ _ _ _ _ _ c.gather.result c.gather.ensures)
