use Rattle.ttlv_run.proofs.Asking.{same_names}
use Rattle.ttlv_run.proofs.tool.names_in.Goals as goal

pub returns-clause-names : goal.returns-clause-names
returns-clause-names g c = same_names _ _ _ _ _ _ _ _ _ _ _ _ c.in_ok-own.ensures.tags c.in-Ok.ensures c.in_ok-own.ensures.values
    c.in_ok-standard_values.ensures.names c.in_ok-standard_masks.ensures.names c.in_ok-tag_names.ensures.names
