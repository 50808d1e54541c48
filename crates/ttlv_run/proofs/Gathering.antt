-- What came of an input that was printed into memory, and of which something was made and sent.
use Rattle.std.proofs.Common.{◌≡◌, ◌∙◌, inl, inr, Bool, true, false, Bor, Vec, List, [], ℕ, Result, Ok, Err, refl, sym, subst}
use Rattle.std.specs.Prelude.{OnOk, IfErr}
use Rattle.kmip_ttlv_types.specs.Held.{Held, Gets, Rests, Says}
use Rattle.kmip_ttlv_types.proofs.Held.{rests}
use Rattle.ttlv_run.specs.{declared.job.Job.Job, declared.job.Product.Product, declared.run_error.RunError.RunError}
use Rattle.ttlv_run.specs.{Ends.Responds, Texts.Names, Runs.Streams}
use Rattle.ttlv_run.specs.declared.job.Asked.TheVariants.{Gather}
use Rattle.ttlv_run.specs.Prints.{EndsPrint, RespondsPrint}
use Rattle.ttlv_run.specs.Gathers.{Gathered, gathering, lack_line, SendsMade, lacks, malformed, whole, malformed_print, ended, early, not_sent}
use Rattle.ttlv_run.specs.Gathers.{RespondsGather, Sends, sends, sends_none, Unsent, unsent}
use Rattle.ttlv_run.specs.{declared.gather.Made.Made, Products.IsMade, Reasons.IsOfPrinting, Reasons.PrintsFront}
use Rattle.ttlv_run.specs.declared.gather.Made.TheVariants.{Whole, Lacks}

module _ (names : Names) (job : Job) (product : Product) (s : Streams) {text : List ℕ} (m : Gathered text) where
  pub gathered : (errors mid errors_now : Held) (r result : Result Bool RunError) → RespondsPrint names job (gathering s m) errors mid r
      → SendsMade product text r job.name.now s.output s.output_now mid errors_now result
      → RespondsGather names job product s errors errors_now result
  gathered errors mid errors_now (Ok true) (Ok true) p q = (
    record { text = text; memory = m; printed = p.0; made = q.0; is = q.1; appended = q.2 },
    subst (Rests errors) (sym (q.3 ∙ p.1)) (rests errors),
  )
  gathered errors mid errors_now (Ok true) (Ok false) p q = (
    lack_line job.name.now q.0,
    lacks text m q.0 p.0 q.1 refl q.2,
    subst (λ (e : Held). Says e errors_now (lack_line job.name.now q.0)) p.1 q.3,
  )
  gathered errors mid errors_now (Ok true) (Err why) p q = (not_sent text m (whole p.0) q.0, inl (q.1 ∙ p.1))
  gathered errors mid errors_now (Ok false) (Ok true) p q = absurd q
  gathered errors mid errors_now (Ok false) (Ok false) p q =
      (p.0, malformed text m p.1 q.0, subst (λ (e : Held). Says errors e p.0) (sym q.1) p.2)
  gathered errors mid errors_now (Ok false) (Err why) p q = (
    not_sent text m (malformed_print p.0 p.1) q.0,
    inr (text, m, p.0, p.1, subst (λ (e : Held). Says errors e p.0) (sym q.1) p.2),
  )
  gathered errors mid errors_now (Err before) (Ok all) p q = absurd q
  gathered errors mid errors_now (Err before) (Err why) p q = elim q.0 [
    | inl same ↦ (early text m (subst (EndsPrint names job (gathering s m)) (sym same.0) p.0) same.1, inl (q.1 ∙ p.1))
    | inr front ↦ (not_sent text m (ended before p.0) front, inl (q.1 ∙ p.1))
  ]

-- and that is what was asked
pub of_gather : (names : Names) (job : Job) (product : Product) (s : Streams) (errors errors_now : Held) (r : Result Bool RunError)
    → RespondsGather names job product s errors errors_now r → Responds names (Gather job.task job.encoding product) job.name s errors errors_now r
of_gather names job product s errors errors_now (Ok true) h = h
of_gather names job product s errors errors_now (Ok false) h = h
of_gather names job product s errors errors_now (Err why) h = h

-- ---- what is sent of what was made

module _ (product : Product) (text : List ℕ) (old new : Held) {A : Type 0} {r : Made A} where
  -- a part of it was
  pub sent_part : (made : Vec ℕ A) (bytes : List ℕ) (why : RunError) → IsMade product text r → r ≡ Whole made → bytes ≡ made.items
      → IsOfPrinting why → PrintsFront why old new bytes → Unsent product text old new why
  sent_part made bytes why is some same of front =
      unsent made.items (subst (IsMade product text) some is) of (subst (PrintsFront why old new) same front)

  -- it was sent
  pub sent : {T : Type 0} (made : Vec ℕ A) (bytes : List ℕ) (s : Result T RunError) → IsMade product text r → r ≡ Whole made → bytes ≡ made.items
      → OnOk s (Gets old new bytes) → OnOk s (Sends product text old new)
  sent made bytes (Ok x) is some same gets = sends made.items (subst (IsMade product text) some is) (subst (Gets old new) same gets)
  sent made bytes (Err why) is some same gets = gets

  -- or an error says why not
  pub not_all : {T : Type 0} (made : Vec ℕ A) (bytes : List ℕ) (s : Result T RunError) → IsMade product text r → r ≡ Whole made → bytes ≡ made.items
      → IfErr s IsOfPrinting → IfErr s (λ why. PrintsFront why old new bytes) → IfErr s (Unsent product text old new)
  not_all made bytes (Ok x) is some same of front = of
  not_all made bytes (Err why) is some same of front = sent_part made bytes why is some same of front

  -- there was nothing to send
  pub nothing_sent : (words : Bor (List ℕ)) → IsMade product text r → r ≡ Lacks words → Gets old new [] → Sends product text old new
  nothing_sent words is none gets = sends_none words.now (subst (IsMade product text) none is) gets

module _ (product : Product) (text : List ℕ) (old new errors : Held) (name : List ℕ) where
  -- of an input that isn't whole all was sent, or not
  pub sent_before : (all : Bool) → all ≡ false → Sends product text old new → SendsMade product text (Ok all) name old new errors errors (Ok false)
  sent_before true off h = absurd (cc off)
  sent_before false off h = (h, refl)

  pub not_sent_before : (all : Bool) (why : RunError) → Unsent product text old new why
      → SendsMade product text (Ok all) name old new errors errors (Err why)
  not_sent_before true why h = (h, refl)
  not_sent_before false why h = (h, refl)
