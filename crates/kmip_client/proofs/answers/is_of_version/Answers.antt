use Rattle.kmip_client.specs.Answers.{AllFailed}
use Rattle.kmip_client.proofs.Deciding.{decides, not_passed, the_other}
use Rattle.kmip_client.proofs.answers.is_of_version.Goals as goal

pub returns-else-is_same_version : goal.returns-else-is_same_version
returns-else-is_same_version g c =
    the_other c.all_failed.result (decides AllFailed c.all_failed.result c.as_slice.ensures.value c.all_failed.ensures)
    (not_passed c.is_same_version.result c.is_same_version.ensures c.if-is_same_version.false)
