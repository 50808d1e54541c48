-- Bytes that are one structure: within no other it is read as it is read as a message.
use Rattle.std.proofs.Common.{◌≡◌, ℕ, ◌≤◌, List, [], Bool, length, refl}
use Rattle.std.proofs.lemmas.Bool.{le-ltb}
use Rattle.kmip_ttlv_types.specs.{declared.typ.TtlvType.TheVariants.Structure, Digits.tag_text, Places.tag_at}
use Rattle.kmip_ttlv_base.specs.{Forms.Fields, Values.Values, Values.struct_value}
use Rattle.kmip_ttlv_reader.specs.Outcomes.{all_outcome, fields_outcome, inside, opened, outcome, root_outcome, struct_outcome}
use Rattle.kmip_ttlv_reader.specs.{Spots.structure_form, Steps.Outcome, Steps.Read, Steps.ends_early, Steps.fails, Steps.gives, Steps.mapped, Steps.reads}
use Rattle.kmip_ttlv_reader.specs.Steps.{within, ◌>>=◌}
use Rattle.kmip_ttlv_reader.proofs.{Founding.content_ends, Loops.root_struct_is, Loops.struct_is, Structures.first_is}

-- an item that ends among the bytes is inside all of them
inside_all : (b : List ℕ) (stop : ℕ) → stop ≤ length b → inside b 0 (length b) Structure stop ≡ gives tt
unfolding inside
inside_all b stop le = rw (le-ltb (length b) stop le) refl

pub read_alone : (tag : ℕ) (fs : Fields) (deny : Bool) (b : List ℕ) (o : ℕ)
    → (outcome (structure_form tag fs deny) b o [] 0 (length b) >>= λ r. gives r.value) ≡ root_outcome (structure_form tag fs deny) b
unfolding struct_outcome
read_alone tag fs deny b o = rw (struct_is (tag_text tag) fs deny b o [] 0 (length b), root_struct_is (tag_text tag) fs deny b, first_is tag fs deny b)
    (by_stop (opened (tag_text tag) b 0) refl)
  where
    all : ℕ → Outcome (Read Values)
    all stop = within (tag_at b 0) (all_outcome fs deny (fields_outcome fs) b (tag_at b 0) [] 8 stop)

    by_all : (stop : ℕ) (x : Outcome (Read Values)) → all stop ≡ x → opened (tag_text tag) b 0 ≡ gives stop
        → (mapped (struct_value (tag_text tag)) (x >>= λ rs. inside b 0 (length b) Structure stop >>= λ u. reads rs.value rs.stored stop)
        >>= λ r. gives r.value)
        ≡ ((x >>= λ rs. gives rs.value) >>= λ vs. gives (struct_value (tag_text tag) vs))
    by_all stop (gives r) is opens = rw (inside_all b stop (content_ends (tag_text tag) fs deny b stop r opens is)) refl
    by_all stop ends_early is opens = refl
    by_all stop (fails f) is opens = refl

    by_stop : (s : Outcome ℕ) → opened (tag_text tag) b 0 ≡ s
        → (mapped (struct_value (tag_text tag)) (s >>= λ stop. all stop >>= λ rs. inside b 0 (length b) Structure stop >>= λ u. reads rs.value rs.stored stop)
        >>= λ r. gives r.value)
        ≡ ((s >>= λ stop. all stop >>= λ rs. gives rs.value) >>= λ vs. gives (struct_value (tag_text tag) vs))
    by_stop (gives stop) is = by_all stop (all stop) refl is
    by_stop ends_early is = refl
    by_stop (fails f) is = refl
