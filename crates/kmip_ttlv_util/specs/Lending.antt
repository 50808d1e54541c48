-- What a printer is once a reference that a call returned has ended.
use Rattle.std.specs.Prelude.{◌≡◌, ⊤}
use Rattle.std.specs.Borrow.{Fml, RattleType, Bor, MutBor, follows_so}
use Rattle.std.specs.declared.alloc.Allocator as alloc
use mathlib.Core.Option.{none}
use Rattle.kmip_ttlv_util.specs.declared.printer.PrettyPrinter.{PrettyPrinter}
use Rattle.kmip_ttlv_util.specs.contracts.printer.PrettyPrinter.{the_row}

-- the printer remains as the returned reference shows it
abbrev pub stays :
    (A : RattleType) (heap : alloc.Ghosts A.Denot)
    → MutBor (PrettyPrinter A.Denot)
    → Bor (PrettyPrinter A.Denot)
    → Fml
stays A heap p r = follows_so (the_row A heap) (the_row A heap) p.ghost_name none (λ _ _. ⊤) (λ n. n ≡ r.now)
