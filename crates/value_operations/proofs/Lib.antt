mod Pops
