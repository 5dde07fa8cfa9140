-- How the examples are written: tables by their sections, routines node by node or as trees, and what is held to the definitions.
use Rattle.std.specs.Prelude.{ℕ, ◌+◌, ◌-◌, List, [], ◌∷◌, ◌++◌, map, length, replicate}
use Rattle.semantics.specs.Words.{Words}
use Rattle.semantics.specs.Check.{Verdict, check, call_fault}
use Rattle.semantics.specs.Rules.{Datum, unbounded}
use Rattle.semantics.specs.Run.{Answer, Result, call}

-- ---- Sections

abbrev pub joined : {A : Type 0} → List (List A) → List A
joined [] = []
joined (l ∷ ls) = l ++ joined ls

-- A section: its count, then its entries.
abbrev pub section : List Words → Words
section es = length es ∷ joined es

abbrev pub one_word_section : Words → Words
one_word_section ws = length ws ∷ ws

-- A field: its type and its count of words. A record is the list of its fields.
abbrev pub of_type : ℕ → ℕ → Words
of_type ty n = ty ∷ n ∷ []

-- Sections 1 to 4: records with their fields, pointers by their targets, variables by their types.
abbrev pub types : List (List Words) → Words → Words → Words
types rs ps vs = one_word_section (map length rs) ++ section (joined rs) ++ one_word_section ps ++ one_word_section vs

-- ---- Nodes by number, and a command

abbrev pub node : ℕ → ℕ → ℕ → Words
node k a b = k ∷ a ∷ b ∷ []

abbrev pub var : ℕ → Words
var i = node 1 i 0

abbrev pub deref : ℕ → Words
deref a = node 2 a 0

abbrev pub field : ℕ → ℕ → Words
field a f = node 3 a f

abbrev pub num : ℕ → Words
num x = node 4 x 0

abbrev pub sum : ℕ → ℕ → Words
sum a b = node 5 a b

abbrev pub read : ℕ → Words
read a = node 6 a 0

abbrev pub address : ℕ → Words
address a = node 7 a 0

abbrev pub cast : ℕ → ℕ → Words
cast a ty = node 8 a ty

abbrev pub size : ℕ → Words
size x = node 9 x 0

abbrev pub malloc : ℕ → Words
malloc a = node 10 a 0

abbrev pub copy : ℕ → ℕ → Words
copy a b = node 11 a b

abbrev pub assign : ℕ → ℕ → Words
assign p v = p ∷ v ∷ []

-- ---- Routines as trees

pub data Term : Type 0 where
  Var : ℕ → Term
  Deref : Term → Term
  Field : Term → ℕ → Term
  Num : ℕ → Term
  Sum : Term → Term → Term
  Read : Term → Term
  Address : Term → Term
  Cast : Term → ℕ → Term
  Size : ℕ → Term
  Malloc : Term → Term
  Copy : Term → Term → Term

infix 30 ◌:=◌
pub data Command : Type 0 where
  ◌:=◌ : Term → Term → Command

-- The nodes of a tree, children first, where the first has number n; its root is the last.
abbrev pub last : ℕ → List Words → ℕ
last n ns = n + length ns - 1

abbrev pub tree : ℕ → Term → List Words
tree n (Var i) = var i ∷ []
tree n (Deref t) = let l : List Words = tree n t in l ++ (deref (last n l) ∷ [])
tree n (Field t f) = let l : List Words = tree n t in l ++ (field (last n l) f ∷ [])
tree n (Num x) = num x ∷ []
tree n (Sum s t) =
    let l : List Words = tree n s in
    let r : List Words = tree (n + length l) t in
    l ++ r ++ (sum (last n l) (last (n + length l) r) ∷ [])
tree n (Read t) = let l : List Words = tree n t in l ++ (read (last n l) ∷ [])
tree n (Address t) = let l : List Words = tree n t in l ++ (address (last n l) ∷ [])
tree n (Cast t ty) = let l : List Words = tree n t in l ++ (cast (last n l) ty ∷ [])
tree n (Size x) = size x ∷ []
tree n (Malloc t) = let l : List Words = tree n t in l ++ (malloc (last n l) ∷ [])
tree n (Copy s t) =
    let l : List Words = tree n s in
    let r : List Words = tree (n + length l) t in
    l ++ r ++ (copy (last n l) (last (n + length l) r) ∷ [])

-- The nodes of the commands, a place's before its value's, and the commands, where the first node has number n.
abbrev pub nodes_of : ℕ → List Command → List Words
nodes_of n [] = []
nodes_of n ((p := v) ∷ cs) =
    let l : List Words = tree n p in
    let r : List Words = tree (n + length l) v in
    l ++ r ++ nodes_of (n + length l + length r) cs

abbrev pub commands_of : ℕ → List Command → List Words
commands_of n [] = []
commands_of n ((p := v) ∷ cs) =
    let l : List Words = tree n p in
    let r : List Words = tree (n + length l) v in
    assign (last n l) (last (n + length l) r) ∷ commands_of (n + length l + length r) cs

-- Sections 5 and 6.
abbrev pub routine : List Command → Words
routine cs = section (nodes_of 0 cs) ++ section (commands_of 0 cs)

-- ---- What is held to the definitions

-- A table and the check's verdict.
pub record Judgement : Type 0 where
  pub table : Words
  pub verdict : Verdict

abbrev pub gives : Words → Verdict → Judgement
gives t v = record { table = t; verdict = v }

unfoldable pub judged : Judgement → Judgement
judged x = record { table = x.table; verdict = check x.table }

-- A call's arguments with the lengths of the three lists for these, and whether it is begun or refused.
pub record Request : Type 0 where
  pub table : Words
  pub inputs : Words
  pub registers : Words
  pub values : ℕ
  pub bases : ℕ
  pub ends : ℕ
  pub verdict : Verdict

unfoldable pub answered : Request → Request
answered x =
    record {
      table = x.table;
      inputs = x.inputs;
      registers = x.registers;
      values = x.values;
      bases = x.bases;
      ends = x.ends;
      verdict = call_fault x.table x.inputs x.registers x.values x.bases x.ends;
    }

-- A call's arguments, and what it must give: the answer and every lent word.
pub record Example : Type 0 where
  pub table : Words
  pub inputs : Words
  pub registers : Words
  pub values : Words
  pub bases : Words
  pub ends : Words
  pub result : Result

-- The same call with what the definitions give.
unfoldable pub observed : Example → Example
observed x =
    record {
      table = x.table;
      inputs = x.inputs;
      registers = x.registers;
      values = x.values;
      bases = x.bases;
      ends = x.ends;
      result = call x.table x.inputs x.registers x.values x.bases x.ends;
    }

-- An answer and the words of memory, as a result.
abbrev pub answer_with : Answer → List Datum → Result
answer_with a m =
    record { answer = a; values = map (λ (x : Datum). x.value) m; bases = map (λ (x : Datum). x.base) m; ends = map (λ (x : Datum). x.end) m }

-- A call over lists of this length. They arrive with 7, 8 and 9 in every word.
abbrev pub called : Words → Words → Words → ℕ → Result → Example
called t inputs registers len r =
    record { table = t; inputs = inputs; registers = registers; values = replicate len 7; bases = replicate len 8; ends = replicate len 9; result = r }

-- The lists as they arrived.
abbrev pub untouched : ℕ → List Datum
untouched len = replicate len (record { value = 7; base = 8; end = 9 })

-- A run of a table that passes; m has the words from 1 to U - 1, as document 01 prints them. Word 0 and the words from U on are clear.
abbrev pub ends_so : Words → Words → Words → ℕ → Answer → List Datum → Example
ends_so t inputs registers len a m =
    called t inputs registers len (answer_with a (unbounded 0 ∷ m ++ replicate (len - 1 - length m) (unbounded 0)))

abbrev pub bounded : ℕ → ℕ → ℕ → Datum
bounded v b e = record { value = v; base = b; end = e }

-- The list that the bench program hands in.
abbrev pub no_registers : Words
no_registers = 0 ∷ []
