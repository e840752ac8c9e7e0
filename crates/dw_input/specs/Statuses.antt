-- What may be answered in place of what is due: want of memory, and faults of the outside.
use Rattle.std.specs.Prelude.{◌≡◌, Option, Some, None, Result}
use Rattle.std.specs.Prelude.{Err as Refused}
use Rattle.dw_script.specs.declared.status.Status.{Status}
use Rattle.dw_script.specs.declared.status.Status.TheVariants.{Ok, Usage, ReadFault, WriteFault, BadScript, BadSchedule, BadJournal, NotLegal, NotFollows, WrongEnd, Memory}

-- whether the second may be answered where the first is due: what is due, or want of memory, or a fault; a fault of
-- writing only where a program was to write
abbrev pub MayAnswer : Status → Status → Type 0
MayAnswer called Memory = Unit {0}
MayAnswer called ReadFault = Unit {0}
MayAnswer called WriteFault = called ≡ Ok
MayAnswer called status = status ≡ called

-- whether reading files may be refused so: for what is wrong with one, or for want of memory, or for a fault
abbrev pub MayRefuse : {A : Type 0} → Result A Status → Status → Type 0
MayRefuse file Memory = Unit {0}
MayRefuse file ReadFault = Unit {0}
MayRefuse file status = file ≡ Refused status

-- what can be answered before anything is written, once the words have the form of the command
abbrev pub ComesBefore : Status → Type 0
ComesBefore Ok = ⊥
ComesBefore Usage = ⊥
ComesBefore WriteFault = ⊥
ComesBefore status = Unit {0}

-- what can be answered of files that are read: for what stands in one, or for want of memory
abbrev pub ComesOfBytes : Status → Type 0
ComesOfBytes (BadScript name cause) = Unit {0}
ComesOfBytes (BadSchedule line) = Unit {0}
ComesOfBytes (BadJournal line) = Unit {0}
ComesOfBytes (NotLegal event) = Unit {0}
ComesOfBytes (NotFollows event) = Unit {0}
ComesOfBytes (WrongEnd line) = Unit {0}
ComesOfBytes Memory = Unit {0}
ComesOfBytes status = ⊥

-- whether the second is the first, or want of memory
abbrev pub IsOrMemory : Status → Status → Type 0
IsOrMemory meant Memory = Unit {0}
IsOrMemory meant status = status ≡ meant

-- whether what may be refused so is: for what is wrong with it, or for want of memory
abbrev pub MayReject : Option Status → Status → Type 0
MayReject (Some bad) status = IsOrMemory bad status
MayReject None status = status ≡ Memory
