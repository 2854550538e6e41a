-- The fault that an answer of the reader names.
use Rattle.std.specs.Prelude.{ℕ, ◌≡◌, List, Option, Some, None, IfSome}
use Rattle.syn_reader.specs.declared.ReadFault.{ReadFault}
use Rattle.syn_reader.specs.declared.ReadFault.TheVariants as answers
use Rattle.syn_reader.specs.Faults.{Fault, BadByte, AfterEnd, UnknownKeyword, SecondModel, NoName, ExtraWord, StrayRow, RowShape, MixedRows, LatchShape, LatchType, LatchInit, DefinedTwice, ModelTwice, SubcktShape, PortTwice, UnknownModel, UnknownPort, PortMissing, Undriven, Recursion, TooManyWords, Cycle, TooManySources, TooLarge}
use Rattle.syn_reader.specs.Limits.{IsFirstFault}
use Rattle.syn_reader.specs.ModelFaults.{first_line_fault}

-- the fault of an answer; want of memory is none
abbrev pub fault_in : ReadFault → Option Fault
fault_in (answers.BadByte at) = Some (BadByte at)
fault_in (answers.AfterEnd line) = Some (AfterEnd line)
fault_in (answers.UnknownKeyword line) = Some (UnknownKeyword line)
fault_in (answers.SecondModel line) = Some (SecondModel line)
fault_in (answers.NoName line) = Some (NoName line)
fault_in (answers.ExtraWord line) = Some (ExtraWord line)
fault_in (answers.StrayRow line) = Some (StrayRow line)
fault_in (answers.RowShape line) = Some (RowShape line)
fault_in (answers.MixedRows line) = Some (MixedRows line)
fault_in (answers.LatchShape line) = Some (LatchShape line)
fault_in (answers.LatchType line) = Some (LatchType line)
fault_in (answers.LatchInit line) = Some (LatchInit line)
fault_in (answers.DefinedTwice line name) = Some (DefinedTwice line name)
fault_in (answers.ModelTwice line) = Some (ModelTwice line)
fault_in (answers.SubcktShape line) = Some (SubcktShape line)
fault_in (answers.PortTwice line formal) = Some (PortTwice line formal)
fault_in (answers.UnknownModel line) = Some (UnknownModel line)
fault_in (answers.UnknownPort line formal) = Some (UnknownPort line formal)
fault_in (answers.PortMissing line port) = Some (PortMissing line port)
fault_in (answers.Undriven name) = Some (Undriven name)
fault_in (answers.Recursion names) = Some (Recursion names)
fault_in (answers.TooManyWords count) = Some (TooManyWords count)
fault_in (answers.Cycle names) = Some (Cycle names)
fault_in (answers.TooManySources count) = Some (TooManySources count)
fault_in (answers.TooLarge cost) = Some (TooLarge cost)
fault_in answers.NoMemory = None

-- An answer names the text's first disallowed byte or fault of a line, or want of memory.
abbrev pub NamesLineFault : List ℕ → ReadFault → Type 0
NamesLineFault bytes answer = IfSome (fault_in answer) (λ fault. first_line_fault bytes ≡ Some fault)

-- An answer names the file's first fault, or want of memory.
abbrev pub NamesFirstFault : List ℕ → ReadFault → Type 0
NamesFirstFault bytes answer = IfSome (fault_in answer) (IsFirstFault bytes)
