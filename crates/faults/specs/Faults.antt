-- The table of causes: the number of each fault, and the value that is returned with it.
use Rattle.faults.specs.declared.cause.Cause.{Cause}
use Rattle.faults.specs.Causes.{bare, along}
use Rattle.faults.specs.declared.number.NumberFault.{NumberFault}
use Rattle.faults.specs.declared.number.NumberFault.TheVariants.{TooHigh}
use Rattle.faults.specs.declared.number.SizeFault.{SizeFault}
use Rattle.faults.specs.declared.number.SizeFault.TheVariants.{Outside}
use Rattle.faults.specs.declared.plan.PlanFault.{PlanFault}
use Rattle.faults.specs.declared.plan.PlanFault.TheVariants.{Outside as OutsidePlan, Stands, NoSpare, Absent}
use Rattle.faults.specs.declared.register.RegisterFault.{RegisterFault}
use Rattle.faults.specs.declared.register.RegisterFault.TheVariants.{Held as HeldRecord, NoSpare as NoSparePlace, NotHeld}
use Rattle.faults.specs.declared.draft.DraftFault.{DraftFault}
use Rattle.faults.specs.declared.draft.DraftFault.TheVariants.{Number, Held, Full}
use Rattle.faults.specs.declared.suite.SuiteFault.{SuiteFault}
use Rattle.faults.specs.declared.suite.SuiteFault.TheVariants.{Outside as OutsideSuite, Stands as StandsAlready, Absent as StandsNot, PlanFull, NewExceed, LapsedExceed, OutOfStep, TooFewPlaces}
use Rattle.faults.specs.declared.suite.SuiteFault.TheVariants.{NotEmpty as HoldsRecords}
use Rattle.faults.specs.declared.suite.BookingFault.{BookingFault}
use Rattle.faults.specs.declared.suite.BookingFault.TheVariants.{Suite}
use Rattle.faults.specs.declared.suite.BookingFault.TheVariants.{Draft as OfDraft}
use Rattle.faults.specs.declared.weekly.FileFault.{FileFault}
use Rattle.faults.specs.declared.weekly.FileFault.TheVariants.{Opening, Contents, Length, Body, Both}
use Rattle.faults.specs.declared.weekly.ReadFault.{ReadFault}
use Rattle.faults.specs.declared.weekly.ReadFault.TheVariants.{NotEmpty, File, Draft}
use Rattle.faults.specs.declared.weekly.WriteFault.{WriteFault}
use Rattle.faults.specs.declared.weekly.WriteFault.TheVariants.{Note, Short}
use Rattle.faults.specs.declared.weekly.ReceiptFault.{ReceiptFault}
use Rattle.faults.specs.declared.weekly.ReceiptFault.TheVariants.{Read, Write}
use Rattle.faults.specs.declared.intake.Layer.{Layer}
use Rattle.faults.specs.declared.intake.Layer.TheVariants.{File as FileLayer, Draft as DraftLayer, Suite as SuiteLayer}
use Rattle.faults.specs.declared.intake.IntakeFault.{IntakeFault}
use Rattle.faults.specs.declared.intake.IntakeFault.TheVariants.{File as InFile, Draft as InDraft, Suite as InSuite}

-- 1: a key or door number above 63
abbrev pub number_cause : NumberFault → Cause
number_cause TooHigh = bare 1

-- 2: a size outside 1 to 64
abbrev pub size_cause : SizeFault → Cause
size_cause Outside = bare 2

-- 3: the pair is outside the plan's sizes; 4: it stands; 5: no spare place; 6: it does not stand
abbrev pub plan_cause : PlanFault → Cause
plan_cause OutsidePlan = bare 3
plan_cause Stands = bare 4
plan_cause NoSpare = bare 5
plan_cause Absent = bare 6

-- 7: the record is held; 8: no spare place; 9: it is not held
abbrev pub register_cause : RegisterFault → Cause
register_cause HeldRecord = bare 7
register_cause NoSparePlace = bare 8
register_cause NotHeld = bare 9

-- 1, or 10: the pair is in the draft under either mark, at this index; 11: no room at this capacity
abbrev pub draft_cause : DraftFault → Cause
draft_cause (Number fault) = number_cause fault
draft_cause (Held index) = along 10 index
draft_cause (Full capacity) = along 11 capacity

-- 12: the register holds a record; 13: too few places in the register; 14 to 16, each with the index of the change: outside the plan, an added pair
-- stands, a removed pair does not stand; 17: too few places in the plan; 18, 19: more new, more lapsed groups than their list has room for;
-- 20: a lapsed group is not held, or a new one is
abbrev pub suite_cause : SuiteFault → Cause
suite_cause HoldsRecords = bare 12
suite_cause TooFewPlaces = bare 13
suite_cause (OutsideSuite index) = along 14 index
suite_cause (StandsAlready index) = along 15 index
suite_cause (StandsNot index) = along 16 index
suite_cause PlanFull = bare 17
suite_cause NewExceed = bare 18
suite_cause LapsedExceed = bare 19
suite_cause OutOfStep = bare 20

-- the cause of the draft or of the suite
abbrev pub booking_cause : BookingFault → Cause
booking_cause (OfDraft fault) = draft_cause fault
booking_cause (Suite fault) = suite_cause fault

-- 21: the opening, always at place 0; 22: the contents; 23: the file's length; 24: a body; 25: a pair in both bodies
abbrev pub file_cause : FileFault → Cause
file_cause Opening = along 21 0
file_cause (Contents place) = along 22 place
file_cause (Length length) = along 23 length
file_cause (Body place) = along 24 place
file_cause (Both place) = along 25 place

-- 26: a draft that is not empty; else the cause of the file or of the draft
abbrev pub read_cause : ReadFault → Cause
read_cause NotEmpty = bare 26
read_cause (File fault) = file_cause fault
read_cause (Draft fault) = draft_cause fault

-- 27: a byte of the note; 28: the output is too short
abbrev pub write_cause : WriteFault → Cause
write_cause (Note place) = along 27 place
write_cause Short = bare 28

-- the cause of the reading or of the writing
abbrev pub receipt_cause : ReceiptFault → Cause
receipt_cause (Read fault) = read_cause fault
receipt_cause (Write fault) = write_cause fault

-- the cause of the file, of the draft or of the suite
abbrev pub intake_cause : IntakeFault → Cause
intake_cause (InFile fault) = file_cause fault
intake_cause (InDraft fault) = draft_cause fault
intake_cause (InSuite fault) = suite_cause fault

-- the layer whose fault it is
abbrev pub intake_layer : IntakeFault → Layer
intake_layer (InFile fault) = FileLayer
intake_layer (InDraft fault) = DraftLayer
intake_layer (InSuite fault) = SuiteLayer
