-- What serving over streams does to a handler, of whose bytes nothing else is known.
use Rattle.std.specs.Prelude.{◌≡◌}
use Rattle.kmip_server.specs.Serving.{At}

-- it leads from the one state of the handler to the other, whatever the streams have before and behind it
pub record IsServed {H : Type 0} (Serves : At H → At H → Type 0) (old new : H) : Type 0 where
  pub first : At H
  pub last : At H
  pub from : first.desk.handler ≡ old
  pub to : last.desk.handler ≡ new
  pub serves : Serves first last
