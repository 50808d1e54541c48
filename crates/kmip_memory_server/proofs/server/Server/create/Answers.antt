use Rattle.std.proofs.Common.{None}
use Rattle.kmip_memory_server.proofs.Placeholder.{creates_again}
use Rattle.kmip_memory_server.proofs.server.Server.create.Goals as goal

pub returns : goal.returns
returns g c = record {
  about = c.in_ok-about.about;
  wanted = c.in_ok-about.ensures;
  key = c.in_ok-key.key.items;
  creates = creates_again c.in_ok-about.about c.in_ok-key.key.items c.args.self.now.objects None c.in_ok-made.made c.create.new.self c.in_ok-made.ensures;
}
