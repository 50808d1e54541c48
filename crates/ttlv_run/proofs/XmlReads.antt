-- Items that a text of XML is, printed in lines.
use Rattle.std.proofs.Common.{◌≡◌, ◌+◌, ℕ, true, false, List, [], length, refl, sym, subst, append-nil, arith}
use Rattle.kmip_ttlv_items.specs.ItemWalks.{AreBytes}
use Rattle.kmip_ttlv_types.specs.Held.{Held, Gets}
use Rattle.ttlv_run.specs.declared.messages.Reached.TheVariants.{Behind, Fault}
use Rattle.ttlv_run.specs.Messages.{Whole, whole_none, Continues}
use Rattle.ttlv_run.specs.Streaming.{StandsAt, EndsAt, PrintsOn, ContinuesBehind}
use Rattle.ttlv_run.specs.Texts.{Names}
use Rattle.ttlv_run.specs.XmlTexts.{in_lines, PrintsItems}

all_there : (bytes : List ℕ) → StandsAt bytes 0 bytes true
all_there bytes = record { more = []; within = omega arith; are = sym (append-nil bytes); ends = λ _. refl }

module _ (names : Names) (bytes text : List ℕ) (old new : Held) (gets : Gets old new text) where
  pub all_lines : (count : ℕ) → EndsAt bytes true (Behind count) → PrintsOn names in_lines 0 bytes true (Behind count) text
      → PrintsItems names false bytes old new true
  all_lines count end prints =
      let all : 0 + count ≡ length bytes = omega (arith, end) in
      (text, subst (λ (k : ℕ). Whole names in_lines bytes k text) all (prints bytes [] (all_there bytes) whole_none), gets)

  pub some_lines : (fault : _) → PrintsOn names in_lines 0 bytes true (Fault fault) text → PrintsItems names false bytes old new false
  some_lines fault prints = (text, (fault, prints bytes [] (all_there bytes) whole_none), gets)

pub lines_go_on : (names : Names) (bytes text : List ℕ) → AreBytes bytes → ContinuesBehind names in_lines 0 bytes true text
    → Continues names in_lines bytes text
lines_go_on names bytes text are continues = continues bytes [] (all_there bytes) are whole_none
