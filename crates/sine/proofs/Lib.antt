mod Quarters
mod Words
