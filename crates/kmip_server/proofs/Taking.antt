-- What is decoded of a value that is taken.
use Rattle.std.proofs.Common.{subst}
use Rattle.kmip_server.specs.Conversions.{TakesAs}

-- it is what is decoded of the value that was there
pub reads_old : {S R : Type 0} (Reads : S → R → Type 0) (old : S) (r : R) → TakesAs Reads old r → Reads old r
reads_old {S} Reads old r takes = let P : S → Type 0 = λ s. Reads s r in subst P takes.is takes.reads
