use Rattle.ttlv_run.proofs.Prefixes.{front_of_all, fault_of_all, beginning_of_all}
use Rattle.ttlv_run.proofs.laws.a_front_stands_for_a_front.Goals as goal

pub returns-clause-bytes : goal.returns-clause-bytes
returns-clause-bytes c = λ e input front all f w. front_of_all e input front all f w

pub returns-clause-fault : goal.returns-clause-fault
returns-clause-fault c = λ names job s all place f stands. fault_of_all names job s all place f stands

pub returns-clause-beginning : goal.returns-clause-beginning
returns-clause-beginning c = λ names job s all u plain stands. beginning_of_all names job s all u plain stands
