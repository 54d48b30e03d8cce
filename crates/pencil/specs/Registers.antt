-- The registers of a trail: 32 numbers that are given with the member, named by @ and the capitals, and 32 of the section's own, named by the small letters.
use Rattle.std.specs.Prelude.{ℕ, ◌-◌, cond, List, get_or, ltb}

pub record Registers : Type 0 where
  pub given : List ℕ
  pub own : List ℕ

-- register k; those from 32 on are the section's own
abbrev pub at : Registers → ℕ → ℕ
at r k = cond (ltb k 32) (get_or r.given k 0) (get_or r.own (k - 32) 0)

-- ---- given: the record, the header and the work

abbrev pub kind : ℕ
kind = 0

-- βb
abbrev pub bending : ℕ
bending = 2

-- Pa
abbrev pub cargo : ℕ
cargo = 3

-- D0
abbrev pub draught : ℕ
draught = 4

-- η
abbrev pub eta : ℕ
eta = 5

-- of the load that decides
abbrev pub source : ℕ
source = 6

-- βs
abbrev pub shear : ℕ
shear = 7

-- H
abbrev pub wave : ℕ
wave = 8

abbrev pub id : ℕ
id = 9

-- l
abbrev pub span : ℕ
span = 10

-- K
abbrev pub factor : ℕ
factor = 11

-- L
abbrev pub length : ℕ
length = 12

-- M
abbrev pub moment : ℕ
moment = 13

-- ZB or ZDB
abbrev pub hull_modulus : ℕ
hull_modulus = 14

-- σ1
abbrev pub sigma : ℕ
sigma = 15

-- P
abbrev pub pressure : ℕ
pressure = 16

-- q
abbrev pub line : ℕ
line = 17

-- R
abbrev pub stress : ℕ
stress = 18

-- S
abbrev pub spacing : ℕ
spacing = 19

-- zL
abbrev pub tank_top : ℕ
tank_top = 21

-- of the verdict, or a refusal's number
abbrev pub rule : ℕ
rule = 22

abbrev pub b1 : ℕ
b1 = 24

abbrev pub b2 : ℕ
b2 = 25

-- z
abbrev pub height : ℕ
height = 26

-- K2
abbrev pub k2 : ℕ
k2 = 27

-- what the verdict requires, or a refusal's place
abbrev pub required : ℕ
required = 29

abbrev pub version : ℕ
version = 30

-- ---- of the loads

-- 98100(D0 − z), 50031H and their sum
abbrev pub still : ℕ
still = 33

abbrev pub waves : ℕ
waves = 34

abbrev pub below : ℕ
below = 35

-- 50150H, and that or 3000000
abbrev pub swell : ℕ
swell = 36

abbrev pub crest : ℕ
crest = 37

-- 3400H, and the crest with 250000, or with it at H 120
abbrev pub wind : ℕ
wind = 38

abbrev pub above : ℕ
above = 39

-- pB, 14715D0, pM and pB − pM
abbrev pub tank : ℕ
tank = 41

abbrev pub lift : ℕ
lift = 42

abbrev pub relief : ℕ
relief = 43

abbrev pub net : ℕ
net = 44

-- 1000 times the cargo
abbrev pub loaded : ℕ
loaded = 45

-- 98100D0, and with the waves
abbrev pub deep : ℕ
deep = 46

abbrev pub one_run : ℕ
one_run = 47

-- 564075D0/10, the remainder, rounded up, and with the waves
abbrev pub half : ℕ
half = 48

abbrev pub half_left : ℕ
half_left = 49

abbrev pub half_up : ℕ
half_up = 50

abbrev pub two_runs : ℕ
two_runs = 51

-- ---- of a rule

-- the right side divided, the remainder, rounded up, and the root of that
abbrev pub quotient : ℕ
quotient = 33

abbrev pub remainder : ℕ
remainder = 34

abbrev pub right : ℕ
right = 35

abbrev pub root : ℕ
root = 36

-- 36S or 45S
abbrev pub per : ℕ
per = 37

-- root and what is taken off over the step, the remainder, and rounded up
abbrev pub over : ℕ
over = 38

abbrev pub over_left : ℕ
over_left = 39

abbrev pub first : ℕ
first = 40

-- X of the first number, and its square
abbrev pub first_x : ℕ
first_x = 41

abbrev pub first_square : ℕ
first_square = 42

-- one less, or one more; its X, and the square
abbrev pub other : ℕ
other = 43

abbrev pub other_x : ℕ
other_x = 44

abbrev pub other_square : ℕ
other_square = 45

-- the least number, 0 where there is none; the margin, or what is short; what the member has; the gauge's last
abbrev pub least : ℕ
least = 46

abbrev pub margin : ℕ
margin = 47

abbrev pub has : ℕ
has = 48

abbrev pub top : ℕ
top = 49

-- R or q before it is rounded, and the remainder
abbrev pub ratio : ℕ
ratio = 50

abbrev pub ratio_left : ℕ
ratio_left = 51

-- K2 before it is cut off, and the remainder
abbrev pub side : ℕ
side = 52

abbrev pub side_left : ℕ
side_left = 53

-- 1156KR or 6084KR
abbrev pub fork : ℕ
fork = 54

-- the greatest R at the gauge's last, and the remainder
abbrev pub limit : ℕ
limit = 55

abbrev pub limit_left : ℕ
limit_left = 56

-- X = step·T − short
abbrev pub step : ℕ
step = 57

abbrev pub short : ℕ
short = 58
