-- What follows of a result that is what the bytes are read as.
use Rattle.std.proofs.Common.{◌≡◌, ℕ, List, ◌++◌, Result, Ok, Err, inl, inr, refl, sym, ap, subst, ◌∙◌}
use Rattle.std.specs.Prelude.{IfOk, IfErr}
use Rattle.kmip_ttlv_base.specs.{declared.error.Error.Error, Values.Value, Forms.Form}
use Rattle.kmip_ttlv_base.specs.Errors.{Kind, malformed, mismatch, view_of_kind, IsMemory}
use Rattle.kmip_ttlv_reader.specs.{ReadLaws.AreBytes, ReadLaws.Stands, Reads.Begins, Outcomes.root_outcome, Wholes.BeginsWhole}
use Rattle.kmip_ttlv_reader.specs.Steps.{Fault, Outcome, gives, ends_early, fails}
use Rattle.kmip_ttlv_reader.specs.ReadResults.{IsReadAs, IsError, IsOfBytes, seen, ErrorStands, NothingBegins, memory, early_end, sort_of, sort_of_kind}
use Rattle.kmip_ttlv_reader.proofs.{Founding.found_root, Founding.whole_root, Giving.given_root, Standing.root_stands}

pub result_found : {T A : Type 0} (s : Form) (b : List ℕ) (is_value : Value → T → Type 0) (r : Result T (Error A)) → AreBytes b
    → IsReadAs is_value (root_outcome s b) r → IfOk r (λ x. (v : Value) × Begins s b v × is_value v x)
result_found s b is_value (Ok x) bytes h = (h.0, found_root s b h.0 bytes h.1, h.2)
result_found s b is_value (Err e) bytes h = tt

-- out of memory says nothing
memory_sort : {A : Type 0} (e : Error A) → IsMemory e → sort_of e ≡ memory
memory_sort e lack = ap (λ k. sort_of_kind (view_of_kind k)) lack.kind

-- where a value is read, no other outcome comes
not_ends : (v : Value) → ◌≡◌ {A = Outcome Value} ends_early (gives v) → ⊥
not_ends v e = absurd cc

not_fails : (x : Fault) (v : Value) → ◌≡◌ {A = Outcome Value} (fails x) (gives v) → ⊥
not_fails x v e = absurd cc

-- a fault of the bytes stands whatever follows them
fault_stands : (s : Form) (b : List ℕ) (x : Fault) (k : Kind) → IsOfBytes k → root_outcome s b ≡ fails x → NothingBegins s b (sort_of_kind k)
fault_stands s b x k of_bytes is = by_kind k of_bytes
  where
    never : (after : List ℕ) (v : Value) → Begins s (b ++ after) v → ⊥
    never after v begins =
        let same : Stands (fails x) (root_outcome s (b ++ after)) = subst (λ (o : Outcome Value). Stands o (root_outcome s (b ++ after))) is
        (root_stands s b after) in
        not_fails x v (sym same ∙ given_root s (b ++ after) v begins)

    by_kind : (k : Kind) → IsOfBytes k → NothingBegins s b (sort_of_kind k)
    by_kind (malformed m) h = never
    by_kind (mismatch m) h = never
    by_kind _ h = absurd h

error_stands : (s : Form) (b : List ℕ) (o : Outcome Value) (f : Fault) → root_outcome s b ≡ o → IsError o f → NothingBegins s b (sort_of_kind f.why)
error_stands s b (gives v) f is h = absurd h
error_stands s b ends_early f is h = subst (λ (g : Fault). NothingBegins s b (sort_of_kind g.why)) (sym h)
    (λ v begins. not_ends v (sym is ∙ given_root s b v begins))
error_stands s b (fails x) f is h = fault_stands s b x f.why h.1 is

pub result_stands : {T A : Type 0} (s : Form) (b : List ℕ) (is_value : Value → T → Type 0) (r : Result T (Error A)) → IsReadAs is_value (root_outcome s b) r
    → IfErr r (λ e. ErrorStands s b e)
result_stands s b is_value (Ok x) h = tt
result_stands s b is_value (Err e) (inl lack) = subst (NothingBegins s b) (sym (memory_sort e lack)) tt
result_stands s b is_value (Err e) (inr h) = error_stands s b (root_outcome s b) (seen e) refl h

-- a fault of the bytes is no early end
not_early : (k : Kind) → IsOfBytes k → sort_of_kind k ≡ early_end → ⊥
not_early (malformed m) h e = absurd cc
not_early (mismatch m) h e = absurd cc
not_early _ h e = absurd h

error_whole : (s : Form) (b : List ℕ) (o : Outcome Value) (f : Fault) → root_outcome s b ≡ o → IsError o f → BeginsWhole b → sort_of_kind f.why ≡ early_end → ⊥
error_whole s b (gives v) f is h whole early = absurd h
error_whole s b ends_early f is h whole early = whole_root s b whole is
error_whole s b (fails x) f is h whole early = not_early f.why h.1 early

pub result_whole : {T A : Type 0} (s : Form) (b : List ℕ) (is_value : Value → T → Type 0) (r : Result T (Error A)) → IsReadAs is_value (root_outcome s b) r
    → IfErr r (λ e. BeginsWhole b → sort_of e ≡ early_end → ⊥)
result_whole s b is_value (Ok x) h = tt
result_whole s b is_value (Err e) (inl lack) = λ whole early. let no : memory ≡ early_end = sym (memory_sort e lack) ∙ early in absurd cc
result_whole s b is_value (Err e) (inr h) = error_whole s b (root_outcome s b) (seen e) refl h
