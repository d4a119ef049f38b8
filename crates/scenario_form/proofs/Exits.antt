-- Exits with a fault.
use Rattle.std.proofs.Common.{◌≡◌, Result, Ok, Err, IfErr, IsErrAnd, subst}
use Rattle.fil_base.specs.Failure.{IfFault}
use Rattle.fil_base.specs.declared.failure.Failure.{Failure}
use Rattle.fil_base.specs.declared.failure.Failure.TheVariants.{NoMemory, Fault}

-- where the failure is passed on, and what it says of a part it says of the whole
pub part_exit : {T F : Type 0} (P Q : F → Type 0) (part : Failure F) (r : Result T (Failure F)) → IsErrAnd r (λ failure. failure ≡ part) → IfFault part P → ((fault : F) → P fault → Q fault) → IfErr r (λ failure. IfFault failure Q)
part_exit P Q part (Ok x) same is so = tt
part_exit P Q NoMemory (Err NoMemory) same is so = tt
part_exit P Q (Fault fault) (Err NoMemory) same is so = tt
part_exit P Q NoMemory (Err (Fault e)) same is so = absurd (let wrong : Fault e ≡ NoMemory = same in cc)
part_exit P Q (Fault fault) (Err (Fault e)) same is so = (let inner : fault ≡ e = cc same in subst Q inner (so fault is))

-- where a fault is one of what may also run out of memory
pub fault_exit : {T F : Type 0} (P : F → Type 0) (fault : F) (r : Result T (Failure F)) → IsErrAnd r (λ failure. failure ≡ Fault fault) → P fault → IfErr r (λ failure. IfFault failure P)
fault_exit P fault (Ok x) same is = tt
fault_exit P fault (Err NoMemory) same is = tt
fault_exit P fault (Err (Fault e)) same is = (let inner : fault ≡ e = cc same in subst P inner is)
