mod Coprime
mod Products
mod Digits
mod Halves
