-- Statuses of walks.
use Rattle.std.proofs.Common.{◌≡◌, inl, inr, ℕ, suc, ◌<◌, ◌≤◌, true, false, List, [], ◌∷◌, length, Option, Some, None, ap, refl}
use Rattle.std.specs.Option.{is_some}
use Rattle.kmip_ttlv_items.specs.{declared.found.Fault.Fault, FoundItems.overlaid}
use Rattle.kmip_ttlv_c.specs.declared.status.TheConstants.{OK, NO_ROOM, MALFORMED}
use Rattle.kmip_ttlv_c.specs.LentItems.{ReportsWalk, ReportsCheck}

-- writing into a list doesn't change its length
pub overlaid_length : {X : Type 0} (xs ys : List X) → length (overlaid xs ys) ≡ length ys
overlaid_length xs [] = refl
overlaid_length [] (y ∷ ys) = refl
overlaid_length (x ∷ xs) (y ∷ ys) = ap suc (overlaid_length xs ys)

-- a fault
pub walk_fault : (f : Option Fault) (count room : ℕ) → is_some f ≡ true → ReportsWalk f count room MALFORMED
walk_fault None count room e = absurd cc
walk_fault (Some f) count room e = refl

pub check_fault : (f : Option Fault) → is_some f ≡ true → ReportsCheck f MALFORMED
check_fault None e = absurd cc
check_fault (Some f) e = refl

-- no fault
pub walk_whole : (f : Option Fault) (count room : ℕ) → is_some f ≡ false → count ≤ room → ReportsWalk f count room OK
walk_whole None count room e le = inl (refl, le)
walk_whole (Some f) count room e le = absurd cc

pub walk_short : (f : Option Fault) (count room : ℕ) → is_some f ≡ false → room < count → ReportsWalk f count room NO_ROOM
walk_short None count room e lt = inr (refl, lt)
walk_short (Some f) count room e lt = absurd cc

pub check_whole : (f : Option Fault) → is_some f ≡ false → ReportsCheck f OK
check_whole None e = refl
check_whole (Some f) e = absurd cc
