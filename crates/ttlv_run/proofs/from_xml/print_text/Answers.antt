use Rattle.std.proofs.Common.{arith}
use Rattle.kmip_ttlv_xml.proofs.Offsets.{error_within}
use Rattle.ttlv_run.proofs.from_xml.print_text.Goals as goal

-- where a text is wrong is within it
pub overflow_add-result : goal.overflow_add-result
overflow_add-result g c =
    omega (
      arith,
      c.offset.ensures,
      error_within c.unmarked-rest.result.now c.in-Err.error c.unmarked-rest.utf8 c.in-Err.ensures.exact,
      c.unmarked-rest.ensures.length,
      c.type_inv.text,
    )
