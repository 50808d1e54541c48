use Rattle.std.specs.Prelude.{string_bytes}
use Rattle.kmip_ttlv_util.specs.{TagNames.name_in, Pretty.IsPrinted}
use Rattle.kmip_ttlv_util.proofs.Saying.{from_none}
use Rattle.kmip_ttlv_util.proofs.pretty.print.Goals as goal

pub returns : goal.returns
returns g c = from_none (IsPrinted (name_in c.args.names.now) c.args.closed c.args.bytes.now) _ (string_bytes c.print_to.new.out) c.in_ok-print_to.ensures.ok
    c.in_ok-out.ensures.bytes
